-- The lines of parts and bodies, one after the other.
use Rattle.std.proofs.Common.{◌≡◌, ℕ, zero, suc, ◌+◌, ◌<◌, ◌≤◌, List, [], ◌∷◌, ◌++◌, Option, Some, None, refl, sym, ap, ◌∙◌, subst, append_assoc, arith, map, length, get_or, drop, add-one, zero-add}
use Rattle.std.proofs.Math.Path.{fun_ext}
use Rattle.std.proofs.lemmas.Grind.{common_steps}
use Rattle.std.proofs.lemmas.List.{at_drop_more, drop_more}
use Rattle.argos_core.specs.Automata.{registers_within, register_count, registers_of, registers_in}
use Rattle.argos_core.specs.Process.{automaton, States, no_states, state, Body, no_body, body}
use Rattle.argos_core.specs.Views.{process_of, state_of, processes_of, states_of}
use Rattle.argos_core.specs.declared.prog.Prog.{Prog}
use Rattle.argos_core.specs.declared.prog.State.{State}
use Rattle.argos_core.proofs.Shaping.{registers_of-drop, registers_in-drop, rules-length}
use Rattle.eqn_core.specs.Equations.{Literal, Line}
use Rattle.eqn_core.specs.Equations as lines
use Rattle.eqn_core.specs.declared.system.Lit.{Lit}
use Rattle.smallvec.specs.SmallVec.{SmallVec}
use Rattle.eqn_scheme.specs.Scheme.{FireBit, opposite, fire_literals, entering, register_line, state_bits, state_fire_bits, own_bits, own_lines, own_fires, own_ticks, process_bits, parts_bits, bodies_bits, body_bits, process_lines, parts_lines, bodies_lines, body_lines, process_fires, parts_fires, bodies_fires, body_fires}
use Rattle.eqn_build.specs.declared.builder.Exit.{Exit}
use Rattle.eqn_build.specs.inner.BuilderViews.{ExitBits, exit_bits_of, literals, literals_at, own_exits, shifted, placed_body, placed_bodies, starts_of}
use Rattle.eqn_build.proofs.OwnStates.{appended}

pub parts_bits-drop : (ps : List Prog) (i : ℕ) (d : Prog) → i < length ps → parts_bits (processes_of (map process_of (drop i ps))) ≡ process_bits (process_of (get_or ps i d)) + parts_bits (processes_of (map process_of (drop (i + 1) ps)))
parts_bits-drop = at_drop_more (λ ps. parts_bits (processes_of (map process_of ps)))

pub parts_lines-drop : (one b r : ℕ) (run start kill : Literal) (ps : List Prog) (i : ℕ) (d : Prog) → i < length ps
    → parts_lines (processes_of (map process_of (drop i ps))) one b r run start kill
    ≡ process_lines (process_of (get_or ps i d)) one b r run start kill ++ parts_lines (processes_of (map process_of (drop (i + 1) ps))) one (b + process_bits (process_of (get_or ps i d))) (r + register_count (process_of (get_or ps i d))) run start kill
parts_lines-drop one b r run start kill = at_drop_more (λ ps. parts_lines (processes_of (map process_of ps)) one b r run start kill)

pub parts_fires-drop : (b : ℕ) (ps : List Prog) (i : ℕ) (d : Prog) → i < length ps → parts_fires (processes_of (map process_of (drop i ps))) b ≡ process_fires (process_of (get_or ps i d)) b ++ parts_fires (processes_of (map process_of (drop (i + 1) ps))) (b + process_bits (process_of (get_or ps i d)))
parts_fires-drop b = at_drop_more (λ ps. parts_fires (processes_of (map process_of ps)) b)

pub bodies_bits-drop : (ss : List State) (i : ℕ) (d : State) → i < length ss → bodies_bits (states_of (map state_of (drop i ss))) ≡ body_bits (state_of (get_or ss i d)).body + bodies_bits (states_of (map state_of (drop (i + 1) ss)))
bodies_bits-drop = at_drop_more (λ ss. bodies_bits (states_of (map state_of ss)))

pub bodies_fires-drop : (b : ℕ) (ss : List State) (i : ℕ) (d : State) → i < length ss → bodies_fires (states_of (map state_of (drop i ss))) b ≡ body_fires (state_of (get_or ss i d)).body b ++ bodies_fires (states_of (map state_of (drop (i + 1) ss))) (b + body_bits (state_of (get_or ss i d)).body)
bodies_fires-drop b = at_drop_more (λ ss. bodies_fires (states_of (map state_of ss)) b)

-- numbers from one place on
pub shifted-none : (f : ℕ → List Literal) → shifted f 0 ≡ f
unfolding shifted
shifted-none f = fun_ext (λ q. let e : 0 + q ≡ q = omega arith in ap f e)

pub shifted-more : (f : ℕ → List Literal) (i : ℕ) → shifted (shifted f i) 1 ≡ shifted f (i + 1)
unfolding shifted
shifted-more f i = fun_ext (λ q. let e : i + (1 + q) ≡ i + 1 + q = omega arith in ap f e)

pub shifted-first : (f : ℕ → List Literal) (i : ℕ) → shifted f i 0 ≡ f i
unfolding shifted
shifted-first f i = let e : i + 0 ≡ i = omega arith in ap f e

-- the bodies of states with these exits, one by one
pub placed_bodies-drop : (one go r b : ℕ) (enters starts : ℕ → List Literal) (ss : List State) (xs : List Exit) (i : ℕ) (d : State) (x : Exit) → i < length ss → i < length xs
    → placed_bodies (states_of (map state_of (drop i ss))) one go r (map exit_bits_of (drop i xs)) (shifted enters i) (shifted starts i) b
    ≡ placed_body (state_of (get_or ss i d)).body one go r (exit_bits_of (get_or xs i x)) (enters i) (starts i) b
    ++ placed_bodies (states_of (map state_of (drop (i + 1) ss))) one go (r + registers_within (state_of (get_or ss i d)).body) (map exit_bits_of (drop (i + 1) xs)) (shifted enters (i + 1)) (shifted starts (i + 1)) (b + body_bits (state_of (get_or ss i d)).body)
placed_bodies-drop one go r b enters starts ss xs i d x below within =
    let s = state_of (get_or ss i d) in
    let e = exit_bits_of (get_or xs i x) in
    let rest = states_of (map state_of (drop (i + 1) ss)) in
    let more = map exit_bits_of (drop (i + 1) xs) in
    let tail = λ (f g : ℕ → List Literal). placed_bodies rest one go (r + registers_within s.body) more f g (b + body_bits s.body) in
    ap (λ (zs : List State). placed_bodies (states_of (map state_of zs)) one go r (map exit_bits_of (drop i xs)) (shifted enters i) (shifted starts i) b) (drop_more ss i d below)
    ∙ ap (λ (zs : List Exit). placed_bodies (states_of (map state_of (get_or ss i d ∷ drop (i + 1) ss))) one go r (map exit_bits_of zs) (shifted enters i) (shifted starts i) b) (drop_more xs i x within)
    ∙ ap (λ (l : List Literal). placed_body s.body one go r e l (shifted starts i 0) b ++ tail (shifted (shifted enters i) 1) (shifted (shifted starts i) 1)) (shifted-first enters i)
    ∙ ap (λ (l : List Literal). placed_body s.body one go r e (enters i) l b ++ tail (shifted (shifted enters i) 1) (shifted (shifted starts i) 1)) (shifted-first starts i)
    ∙ ap (λ (f : ℕ → List Literal). placed_body s.body one go r e (enters i) (starts i) b ++ tail f (shifted (shifted starts i) 1)) (shifted-more enters i)
    ∙ ap (λ (f : ℕ → List Literal). placed_body s.body one go r e (enters i) (starts i) b ++ tail (shifted enters (i + 1)) f) (shifted-more starts i)

module _ (ps : List Prog) (i : ℕ) (x : Prog) (below : i < length ps) (is : x ≡ get_or ps i x) where
  -- with the part itself in place of the reading of the list
  registers_of-next : registers_of (processes_of (map process_of (drop i ps))) ≡ register_count (process_of x) + registers_of (processes_of (map process_of (drop (i + 1) ps)))
  registers_of-next = subst (λ (y : Prog). registers_of (processes_of (map process_of (drop i ps))) ≡ register_count (process_of y) + registers_of (processes_of (map process_of (drop (i + 1) ps)))) (sym is) (registers_of-drop ps i x below)

  parts_bits-next : parts_bits (processes_of (map process_of (drop i ps))) ≡ process_bits (process_of x) + parts_bits (processes_of (map process_of (drop (i + 1) ps)))
  parts_bits-next = subst (λ (y : Prog). parts_bits (processes_of (map process_of (drop i ps))) ≡ process_bits (process_of y) + parts_bits (processes_of (map process_of (drop (i + 1) ps)))) (sym is) (parts_bits-drop ps i x below)

  pub part_registers : (r r' goal : ℕ) → r' ≡ r + register_count (process_of x) → r + registers_of (processes_of (map process_of (drop i ps))) ≡ goal → r' + registers_of (processes_of (map process_of (drop (i + 1) ps))) ≡ goal
  part_registers r r' goal e h = omega (arith, registers_of-next)

  pub part_bits : (b b' goal : ℕ) → b' ≡ b + process_bits (process_of x) → b + parts_bits (processes_of (map process_of (drop i ps))) ≡ goal → b' + parts_bits (processes_of (map process_of (drop (i + 1) ps))) ≡ goal
  part_bits b b' goal e h = omega (arith, parts_bits-next)

  pub part_lines : (old new goal : List Line) (one one' b b' r r' : ℕ) (run start kill : Literal) → one' ≡ one → b' ≡ b + process_bits (process_of x) → r' ≡ r + register_count (process_of x) → new ≡ old ++ process_lines (process_of x) one b r run start kill
      → old ++ parts_lines (processes_of (map process_of (drop i ps))) one b r run start kill ≡ goal → new ++ parts_lines (processes_of (map process_of (drop (i + 1) ps))) one' b' r' run start kill ≡ goal
  part_lines old new goal one one' b b' r r' run start kill eo eb er e h =
      let rest = processes_of (map process_of (drop (i + 1) ps)) in
      let here = subst (λ (y : Prog). parts_lines (processes_of (map process_of (drop i ps))) one b r run start kill ≡ process_lines (process_of y) one b r run start kill ++ parts_lines rest one (b + process_bits (process_of y)) (r + register_count (process_of y)) run start kill) (sym is) (parts_lines-drop one b r run start kill ps i x below) in
      ap (λ (k : ℕ). new ++ parts_lines rest k b' r' run start kill) eo
      ∙ ap (λ (k : ℕ). new ++ parts_lines rest one k r' run start kill) eb
      ∙ ap (λ (k : ℕ). new ++ parts_lines rest one (b + process_bits (process_of x)) k run start kill) er
      ∙ appended old new (process_lines (process_of x) one b r run start kill) (parts_lines rest one (b + process_bits (process_of x)) (r + register_count (process_of x)) run start kill) goal e (ap (λ l. old ++ l) (sym here) ∙ h)

  pub part_fires : (old new goal : List FireBit) (b b' : ℕ) → b' ≡ b + process_bits (process_of x) → new ≡ old ++ process_fires (process_of x) b → old ++ parts_fires (processes_of (map process_of (drop i ps))) b ≡ goal → new ++ parts_fires (processes_of (map process_of (drop (i + 1) ps))) b' ≡ goal
  part_fires old new goal b b' eb e h =
      let rest = processes_of (map process_of (drop (i + 1) ps)) in
      let here = subst (λ (y : Prog). parts_fires (processes_of (map process_of (drop i ps))) b ≡ process_fires (process_of y) b ++ parts_fires rest (b + process_bits (process_of y))) (sym is) (parts_fires-drop b ps i x below) in
      ap (λ (k : ℕ). new ++ parts_fires rest k) eb ∙ appended old new (process_fires (process_of x) b) (parts_fires rest (b + process_bits (process_of x))) goal e (ap (λ l. old ++ l) (sym here) ∙ h)

module _ (ss : List State) (i : ℕ) (x : State) (below : i < length ss) (is : x ≡ get_or ss i x) where
  -- with the state itself in place of the reading of the list
  registers_in-next : registers_in (states_of (map state_of (drop i ss))) ≡ registers_within (state_of x).body + registers_in (states_of (map state_of (drop (i + 1) ss)))
  registers_in-next = subst (λ (y : State). registers_in (states_of (map state_of (drop i ss))) ≡ registers_within (state_of y).body + registers_in (states_of (map state_of (drop (i + 1) ss)))) (sym is) (registers_in-drop ss i x below)

  bodies_bits-next : bodies_bits (states_of (map state_of (drop i ss))) ≡ body_bits (state_of x).body + bodies_bits (states_of (map state_of (drop (i + 1) ss)))
  bodies_bits-next = subst (λ (y : State). bodies_bits (states_of (map state_of (drop i ss))) ≡ body_bits (state_of y).body + bodies_bits (states_of (map state_of (drop (i + 1) ss)))) (sym is) (bodies_bits-drop ss i x below)

  pub body_registers_step : (r r' goal : ℕ) → r' ≡ r + registers_within (state_of x).body → r + registers_in (states_of (map state_of (drop i ss))) ≡ goal → r' + registers_in (states_of (map state_of (drop (i + 1) ss))) ≡ goal
  body_registers_step r r' goal e h = omega (arith, registers_in-next)

  pub body_bits_step : (b b' goal : ℕ) → b' ≡ b + body_bits (state_of x).body → b + bodies_bits (states_of (map state_of (drop i ss))) ≡ goal → b' + bodies_bits (states_of (map state_of (drop (i + 1) ss))) ≡ goal
  body_bits_step b b' goal e h = omega (arith, bodies_bits-next)

  pub body_fires_step : (old new goal : List FireBit) (b b' : ℕ) → b' ≡ b + body_bits (state_of x).body → new ≡ old ++ body_fires (state_of x).body b → old ++ bodies_fires (states_of (map state_of (drop i ss))) b ≡ goal → new ++ bodies_fires (states_of (map state_of (drop (i + 1) ss))) b' ≡ goal
  body_fires_step old new goal b b' eb e h =
      let rest = states_of (map state_of (drop (i + 1) ss)) in
      let here = subst (λ (y : State). bodies_fires (states_of (map state_of (drop i ss))) b ≡ body_fires (state_of y).body b ++ bodies_fires rest (b + body_bits (state_of y).body)) (sym is) (bodies_fires-drop b ss i x below) in
      ap (λ (k : ℕ). new ++ bodies_fires rest k) eb ∙ appended old new (body_fires (state_of x).body b) (bodies_fires rest (b + body_bits (state_of x).body)) goal e (ap (λ l. old ++ l) (sym here) ∙ h)

  pub body_lines_step : (old new goal : List Line) (one one' go b b' r r' : ℕ) (enters starts : ℕ → List Literal) (xs : List Exit) (y : Exit) (e s : List Literal) → i < length xs → y ≡ get_or xs i y → e ≡ enters i → s ≡ starts i
      → one' ≡ one → b' ≡ b + body_bits (state_of x).body → r' ≡ r + registers_within (state_of x).body → new ≡ old ++ placed_body (state_of x).body one go r (exit_bits_of y) e s b
      → old ++ placed_bodies (states_of (map state_of (drop i ss))) one go r (map exit_bits_of (drop i xs)) (shifted enters i) (shifted starts i) b ≡ goal
      → new ++ placed_bodies (states_of (map state_of (drop (i + 1) ss))) one' go r' (map exit_bits_of (drop (i + 1) xs)) (shifted enters (i + 1)) (shifted starts (i + 1)) b' ≡ goal
  body_lines_step old new goal one one' go b b' r r' enters starts xs y e s within isy ee es eo eb er made h =
      let rest = states_of (map state_of (drop (i + 1) ss)) in
      let more = map exit_bits_of (drop (i + 1) xs) in
      let p = (state_of x).body in
      let tail = λ (o c k : ℕ). placed_bodies rest o go k more (shifted enters (i + 1)) (shifted starts (i + 1)) c in
      let all = placed_bodies (states_of (map state_of (drop i ss))) one go r (map exit_bits_of (drop i xs)) (shifted enters i) (shifted starts i) b in
      let there = subst (λ (z : State). all ≡ placed_body (state_of z).body one go r (exit_bits_of (get_or xs i y)) (enters i) (starts i) b ++ placed_bodies rest one go (r + registers_within (state_of z).body) more (shifted enters (i + 1)) (shifted starts (i + 1)) (b + body_bits (state_of z).body)) (sym is) (placed_bodies-drop one go r b enters starts ss xs i x y below within) in
      let here = subst (λ (z : Exit). all ≡ placed_body p one go r (exit_bits_of z) (enters i) (starts i) b ++ tail one (b + body_bits p) (r + registers_within p)) (sym isy) there in
      let step : new ≡ old ++ placed_body p one go r (exit_bits_of y) (enters i) (starts i) b = made ∙ ap (λ (l : List Literal). old ++ placed_body p one go r (exit_bits_of y) l s b) ee ∙ ap (λ (l : List Literal). old ++ placed_body p one go r (exit_bits_of y) (enters i) l b) es in
      ap (λ (k : ℕ). new ++ tail k b' r') eo
      ∙ ap (λ (k : ℕ). new ++ tail one k r') eb
      ∙ ap (λ (k : ℕ). new ++ tail one (b + body_bits p) k) er
      ∙ appended old new (placed_body p one go r (exit_bits_of y) (enters i) (starts i) b) (tail one (b + body_bits p) (r + registers_within p)) goal step (ap (λ l. old ++ l) (sym here) ∙ h)

-- the list with a number, read from the lists
pub literals_at-read : (vs : List (SmallVec Lit)) (i : ℕ) (v : SmallVec Lit) → i < length vs → v ≡ get_or vs i v → literals v ≡ literals_at vs i
literals_at-read [] i v below is = absurd (omega arith)
literals_at-read (w ∷ vs) zero v below is = ap literals is
literals_at-read (w ∷ vs) (suc i) v below is = literals_at-read vs i v (omega arith) is

-- a body with the exit of its state is the body of the scheme, and so are all bodies
placed_body-is : (p : Body) (one go r live : ℕ) (leaves enters starts : List Literal) (kill : Literal) (b : ℕ) → placed_body p one go r (record { live = live; left = leaves ++ kill ∷ [] }) enters starts b ≡ body_lines p one go r live leaves enters starts kill b
placed_body-is no_body one go r live leaves enters starts kill b = refl
placed_body-is (body p) one go r live leaves enters starts kill b = grind arith

pub placed_bodies-are : (ss : States) (one go r own b : ℕ) (enters f starts g : ℕ → List Literal) (kill : Literal) → ((q : ℕ) → enters q ≡ f q) → ((q : ℕ) → starts q ≡ g q) → placed_bodies ss one go r (own_exits ss kill own) enters starts b ≡ bodies_lines ss one go r f g kill own b
unfolding shifted
placed_bodies-are no_states one go r own b enters f starts g kill h k = refl
placed_bodies-are (state s p ss) one go r own b enters f starts g kill h k =
    let leaves = fire_literals (state_fire_bits own s.transitions s.timeout) in
    let bits = state_bits s.transitions s.timeout in
    let tail = placed_bodies ss one go (r + registers_within p) (own_exits ss kill (own + bits)) (shifted enters 1) (shifted starts 1) (b + body_bits p) in
    let next : (q : ℕ) → 1 + q ≡ suc q = λ q. omega arith in
    let rest : tail ≡ bodies_lines ss one go (r + registers_within p) (λ q. f (suc q)) (λ q. g (suc q)) kill (own + bits) (b + body_bits p) =
    placed_bodies-are ss one go (r + registers_within p) (own + bits) (b + body_bits p) (shifted enters 1) (λ q. f (suc q)) (shifted starts 1) (λ q. g (suc q)) kill (λ q. ap enters (next q) ∙ h (suc q)) (λ q. ap starts (next q) ∙ k (suc q))
    in
    ap (λ (l : List Line). l ++ tail) (placed_body-is p one go r (suc own) leaves (enters 0) (starts 0) kill b)
    ∙ ap (λ (l : List Literal). body_lines p one go r (suc own) leaves l (starts 0) kill b ++ tail) (h 0)
    ∙ ap (λ (l : List Literal). body_lines p one go r (suc own) leaves (f 0) l kill b ++ tail) (k 0)
    ∙ ap (λ (l : List Line). body_lines p one go r (suc own) leaves (f 0) (g 0) kill b ++ l) rest

-- one piece after the other
pieces : (l0 l1 l2 l3 l4 own bodies : List Line) (first line : Line) → l1 ≡ l0 ++ first ∷ [] → l2 ≡ l1 ++ own → l3 ≡ l2 ++ line ∷ [] → l4 ≡ l3 ++ bodies → l4 ≡ l0 ++ (first ∷ (own ++ line ∷ bodies))
pieces l0 l1 l2 l3 l4 own bodies first line e1 e2 e3 e4 =
    e4
    ∙ ap (λ (l : List Line). l ++ bodies) (e3 ∙ ap (λ (l : List Line). l ++ line ∷ []) (e2 ∙ ap (λ (l : List Line). l ++ own) e1))
    ∙ append_assoc ((l0 ++ first ∷ []) ++ own) (line ∷ []) bodies
    ∙ append_assoc (l0 ++ first ∷ []) own (line ∷ bodies)
    ∙ append_assoc l0 (first ∷ []) (own ++ line ∷ bodies)

-- so an automaton has the lines of the scheme
pub automaton_lines : (ss : States) (q0 one one' one'' b b' b'' r go : ℕ) (run start kill : Literal) (l0 l1 l2 l3 l4 : List Line) (first line : Line) (fires : List FireBit) (ticks : List ℕ) (exits : List ExitBits) (enters : ℕ → List Literal)
    → one' ≡ one → one'' ≡ one' → b' ≡ b + 1 → b'' ≡ b' + own_bits ss → go ≡ b → first ≡ lines.all (opposite start ∷ opposite kill ∷ [])
    → fires ≡ own_fires ss b' → ticks ≡ own_ticks ss b' → exits ≡ own_exits ss kill b' → line ≡ register_line ss q0 r start kill fires ticks → ((q : ℕ) → enters q ≡ entering fires q)
    → l1 ≡ l0 ++ first ∷ [] → l2 ≡ l1 ++ own_lines ss one' run r 1 b' → l3 ≡ l2 ++ line ∷ [] → l4 ≡ l3 ++ placed_bodies ss one'' go (r + 1) exits enters (starts_of q0 start) b''
    → l4 ≡ l0 ++ process_lines (automaton ss q0) one b r run start kill
automaton_lines ss q0 one one' one'' b b' b'' r go run start kill l0 l1 l2 l3 l4 first line fires ticks exits enters eo eo' eb eb' eg ef efires eticks eexits eline eenters e1 e2 e3 e4 =
    let next : b' ≡ suc b = omega arith in
    let all = lines.all (opposite start ∷ opposite kill ∷ []) in
    let own = own_lines ss one run r 1 (suc b) in
    let made = register_line ss q0 r start kill (own_fires ss (suc b)) (own_ticks ss (suc b)) in
    let o : own_lines ss one' run r 1 b' ≡ own = ap (λ (k : ℕ). own_lines ss k run r 1 b') eo ∙ ap (λ (k : ℕ). own_lines ss one run r 1 k) next in
    let f : fires ≡ own_fires ss (suc b) = efires ∙ ap (own_fires ss) next in
    let l : line ≡ made = eline ∙ ap (λ (fs : List FireBit). register_line ss q0 r start kill fs ticks) f ∙ ap (λ (ts : List ℕ). register_line ss q0 r start kill (own_fires ss (suc b)) ts) (eticks ∙ ap (own_ticks ss) next) in
    let x : exits ≡ own_exits ss kill (suc b) = eexits ∙ ap (own_exits ss kill) next in
    let one_is : one'' ≡ one = eo' ∙ eo in
    let r_is : r + 1 ≡ suc r = omega arith in
    let b_is : b'' ≡ suc b + own_bits ss = omega arith in
    let z : placed_bodies ss one'' go (r + 1) exits enters (starts_of q0 start) b'' ≡ bodies_lines ss one b (suc r) (entering (own_fires ss (suc b))) (starts_of q0 start) kill (suc b) (suc b + own_bits ss) =
    ap (λ (k : ℕ). placed_bodies ss k go (r + 1) exits enters (starts_of q0 start) b'') one_is
    ∙ ap (λ (k : ℕ). placed_bodies ss one k (r + 1) exits enters (starts_of q0 start) b'') eg
    ∙ ap (λ (k : ℕ). placed_bodies ss one b k exits enters (starts_of q0 start) b'') r_is
    ∙ ap (λ (xs : List ExitBits). placed_bodies ss one b (suc r) xs enters (starts_of q0 start) b'') x
    ∙ ap (λ (k : ℕ). placed_bodies ss one b (suc r) (own_exits ss kill (suc b)) enters (starts_of q0 start) k) b_is
    ∙ placed_bodies-are ss one b (suc r) (suc b) (suc b + own_bits ss) enters (entering (own_fires ss (suc b))) (starts_of q0 start) (starts_of q0 start) kill (λ q. eenters q ∙ ap (λ (fs : List FireBit). entering fs q) f) (λ q. refl)
    in
    pieces l0 l1 l2 l3 l4 (own_lines ss one' run r 1 b') (placed_bodies ss one'' go (r + 1) exits enters (starts_of q0 start) b'') first line e1 e2 e3 e4
    ∙ ap (λ (y : Line). l0 ++ (y ∷ (own_lines ss one' run r 1 b' ++ line ∷ placed_bodies ss one'' go (r + 1) exits enters (starts_of q0 start) b''))) ef
    ∙ ap (λ (y : List Line). l0 ++ (all ∷ (y ++ line ∷ placed_bodies ss one'' go (r + 1) exits enters (starts_of q0 start) b''))) o
    ∙ ap (λ (y : Line). l0 ++ (all ∷ (own ++ y ∷ placed_bodies ss one'' go (r + 1) exits enters (starts_of q0 start) b''))) l
    ∙ ap (λ (y : List Line). l0 ++ (all ∷ (own ++ made ∷ y))) z

pub ruleset process_building = (common_steps, parts_bits-drop, parts_lines-drop, parts_fires-drop, bodies_bits-drop, bodies_fires-drop, placed_bodies-drop, registers_of-drop, registers_in-drop, rules-length, shifted-none)
