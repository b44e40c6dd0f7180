-- The lines of a process read inputs, locals and earlier lines alone, and registers, and their codes are in range.
use Rattle.std.proofs.Common.{◌≡◌, ℕ, zero, suc, ◌+◌, ◌<◌, ◌≤◌, List, [], ◌∷◌, ◌++◌, Option, Some, None, Bool, true, false, nat_eq, nat_lt, if◌then◌else◌, sym, ◌∙◌, inl, inr, subst, arith, length}
use Rattle.argos_base.specs.SignalSets.{lists}
use Rattle.argos_base.proofs.Bools.{true_or_false, or_cases, or_left, or_right}
use Rattle.argos_core.specs.Automata.{counts_of, code_count, first_code, rules_of, register_count, registers_of, registers_in, registers_within}
use Rattle.argos_core.specs.Modules.{Scope, is_readable, within_locals, IsGuard, AreGuards, AreTransitions, IsTimeout, IsScoped, AreScopedParts, AreScopedStates, IsScopedBody, AreTargets, IsCounting, IsShaped, AreShapedParts, AreShapedStates, IsShapedBody, locals_in, locals_in_parts, locals_in_states, locals_in_body}
use Rattle.argos_core.specs.Process.{Guard, always, never, present, negation, all, any, Guards, no_guards, guard, Transition, Timeout, Process, automaton, parallel, local, freeze, Processes, no_processes, process, States, no_states, state, Body, no_body, body}
use Rattle.eqn_core.specs.Equations.{Literal, Case, Choice, code, word, next, Line, within, digit, choose, bit_lines}
use Rattle.eqn_core.specs.Equations as lines
use Rattle.eqn_scheme.specs.Scheme.{plus, minus, guard_bits, operand_bits, guard_literal, operand_literals, guard_lines, operand_lines, FireBit, transition_bits, transition_lines, transition_fires, refusals, timeout_bits, timeout_lines, timeout_fires, timeout_ticks, state_bits, state_lines, state_fire_bits, own_bits, own_lines, own_fires, own_ticks, fire_cases, tick_cases, register_line, fire_literals, entering, process_bits, body_bits, process_lines, parts_lines, bodies_lines, body_lines}
use Rattle.eqn_scheme.proofs.Counting.{bits-guard, bits-operands, bits-transitions, bits-state, bits-own, bits-process, bits-body}
use Rattle.eqn_scheme.proofs.Listing.{lists-append, lists-left, lists-right}
use Rattle.eqn_core.proofs.LinePlaces.{next_bit, next_bit-is}

pub first_fits : (ss : States) (n q : ℕ) → AreShapedStates n ss → q < length (rules_of ss) → first_code ss q ≤ code_count ss
first_fits no_states n q h below = absurd (omega arith)
first_fits (state s p ss) n zero h below = omega (arith, counts_some n s.timeout h.1)
  where
    counts_some : (n : ℕ) (w : Option Timeout) → IsCounting n w → 1 ≤ counts_of w
    counts_some n None h = omega arith
    counts_some n (Some w) h = h.0
first_fits (state s p ss) n (suc q) h below = omega (arith, first_fits ss n q h.3 (omega arith))

counts_positive : (n : ℕ) (w : Option Timeout) → IsCounting n w → 1 ≤ counts_of w
counts_positive n None h = omega arith
counts_positive n (Some w) h = h.0

module _ (n one R : ℕ) (low : n ≤ one) (Signal : ℕ → Type 0) where
  -- at bit b this literal is of an earlier bit, and of no signal but these
  abbrev pub Fine : ℕ → Literal → Type 0
  Fine b l = (l.bit < b) × (l.bit < n → Signal l.bit)

  fine_more : (l : Literal) (b c : ℕ) → b ≤ c → Fine b l → Fine c l
  fine_more l b c le h = (omega (arith, h.0), h.1)

  fresh : (k b : ℕ) → n ≤ k → k < b → Fine b (plus k)
  fresh k b above below = (below, λ y. absurd (omega arith))

  fresh_minus : (k b : ℕ) → n ≤ k → k < b → Fine b (minus k)
  fresh_minus k b above below = (below, λ y. absurd (omega arith))

  abbrev pub AllFine : ℕ → List Literal → Type 0
  AllFine b [] = Unit {0}
  AllFine b (l ∷ ls) = Fine b l × AllFine b ls

  all_more : (ls : List Literal) (b c : ℕ) → b ≤ c → AllFine b ls → AllFine c ls
  all_more [] b c le h = tt
  all_more (l ∷ ls) b c le h = (fine_more l b c le h.0, all_more ls b c le h.1)

  all_append : (xs ys : List Literal) (b : ℕ) → AllFine b xs → AllFine b ys → AllFine b (xs ++ ys)
  all_append [] ys b h i = i
  all_append (x ∷ xs) ys b h i = (h.0, all_append xs ys b h.1 i)

  abbrev pub IsChoice : Choice → Type 0
  IsChoice (code c) = c ≤ 65535
  IsChoice (word x) = x < R
  IsChoice (next x) = x < R

  abbrev pub AreCases : ℕ → List Case → Type 0
  AreCases b [] = Unit {0}
  AreCases b (c ∷ cs) = Fine b c.when × IsChoice c.choice × AreCases b cs

  cases_append : (xs ys : List Case) (b : ℕ) → AreCases b xs → AreCases b ys → AreCases b (xs ++ ys)
  cases_append [] ys b h i = i
  cases_append (x ∷ xs) ys b h i = (h.0, h.1, cases_append xs ys b h.2 i)

  abbrev pub IsLine : ℕ → Line → Type 0
  IsLine b (lines.all ls) = AllFine b ls
  IsLine b (lines.any ls) = AllFine b ls
  IsLine b (within x lo hi) = (x < R) × (lo ≤ hi) × (hi ≤ 65535)
  IsLine b (digit x place) = (x < R) × (place ≤ 15)
  IsLine b (choose cases other) = AreCases b cases × IsChoice other

  abbrev pub AreLines : ℕ → List Line → Type 0
  AreLines b [] = Unit {0}
  AreLines b (l ∷ ls) = IsLine b l × AreLines (next_bit b l) ls

  lines_place : (b c : ℕ) (ls : List Line) → b ≡ c → AreLines b ls → AreLines c ls
  lines_place b c ls e h = subst (λ k. AreLines k ls) e h

  lines_append : (xs ys : List Line) (b : ℕ) → AreLines b xs → AreLines (b + bit_lines xs) ys → AreLines b (xs ++ ys)
  lines_append [] ys b h i = lines_place (b + 0) b ys (omega arith) i
  lines_append (x ∷ xs) ys b h i = (h.0, lines_append xs ys (next_bit b x) h.1 (lines_place (b + bit_lines (x ∷ xs)) (next_bit b x + bit_lines xs) ys (omega (arith, next_bit-is b x)) i))

  lines_behind : (xs ys : List Line) (b k : ℕ) → bit_lines xs ≡ k → AreLines b xs → AreLines (b + k) ys → AreLines b (xs ++ ys)
  lines_behind xs ys b k e h i = lines_append xs ys b h (lines_place (b + k) (b + bit_lines xs) ys (omega (arith, e)) i)

  abbrev pub ReadsSignals : Scope → Type 0
  ReadsSignals sc = (k : ℕ) → is_readable sc k ≡ true → (k < n) × Signal k

  abbrev pub AreSignals : List ℕ → Type 0
  AreSignals list = (k : ℕ) → lists list k ≡ true → (k < n) × Signal k

  signal_fine : (k b : ℕ) → n ≤ b → (k < n) × Signal k → Fine b (plus k)
  signal_fine k b above h = (omega (arith, h.0), λ y. h.1)

  reads_within : (sc : Scope) (list : List ℕ) → ReadsSignals sc → AreSignals list → ReadsSignals (within_locals sc list)
  reads_within sc list h i k y = elim (or_cases (nat_lt k sc.inputs) (lists (list ++ sc.locals) k) y) [
    | inl a ↦ h k (or_left (nat_lt k sc.inputs) (lists sc.locals k) a)
    | inr a ↦ elim (or_cases (lists list k) (lists sc.locals k) (sym (lists-append list sc.locals k) ∙ a)) [ inl b ↦ i k b | inr b ↦ h k (or_right (nat_lt k sc.inputs) (lists sc.locals k) b) ]
  ]

  -- guards
  mutual
    guard_fine : (g : Guard) (sc : Scope) (b : ℕ) → one < b → ReadsSignals sc → IsGuard sc g → AreLines b (guard_lines one b g) × Fine (b + guard_bits g) (guard_literal one b g)
    guard_fine always sc b above i h = (tt, fresh one (b + 0) low (omega arith))
    guard_fine never sc b above i h = (tt, fresh_minus one (b + 0) low (omega arith))
    guard_fine (present k) sc b above i h = (tt, signal_fine k (b + 0) (omega arith) (i k h))
    guard_fine (negation g) sc b above i h = let r = guard_fine g sc b above i h in (r.0, r.1)
    guard_fine (all gs) sc b above i h =
        let r = operands_fine gs sc b above i h.1 in
        (lines_behind (operand_lines one b gs) (lines.all (operand_literals one b gs) ∷ []) b (operand_bits gs) (bits-operands gs one b) r.0 (r.1, tt), fresh (b + operand_bits gs) (b + suc (operand_bits gs)) (omega arith) (omega arith))
    guard_fine (any gs) sc b above i h =
        let r = operands_fine gs sc b above i h.1 in
        (lines_behind (operand_lines one b gs) (lines.any (operand_literals one b gs) ∷ []) b (operand_bits gs) (bits-operands gs one b) r.0 (r.1, tt), fresh (b + operand_bits gs) (b + suc (operand_bits gs)) (omega arith) (omega arith))

    operands_fine : (gs : Guards) (sc : Scope) (b : ℕ) → one < b → ReadsSignals sc → AreGuards sc gs → AreLines b (operand_lines one b gs) × AllFine (b + operand_bits gs) (operand_literals one b gs)
    operands_fine no_guards sc b above i h = (tt, tt)
    operands_fine (guard g gs) sc b above i h =
        let r = guard_fine g sc b above i h.0 in
        let q = operands_fine gs sc (b + guard_bits g) (omega arith) i h.1 in (
          lines_behind (guard_lines one b g) (operand_lines one (b + guard_bits g) gs) b (guard_bits g) (bits-guard g one b) r.0 q.0,
          (fine_more (guard_literal one b g) (b + guard_bits g) (b + operand_bits (guard g gs)) (omega arith) r.1, all_more (operand_literals one (b + guard_bits g) gs) (b + guard_bits g + operand_bits gs) (b + operand_bits (guard g gs)) (omega arith) q.1),
        )

  -- the fires' bits are behind the signals and before b, and their targets exist
  abbrev pub AreFires : ℕ → ℕ → List FireBit → Type 0
  AreFires count b [] = Unit {0}
  AreFires count b (f ∷ fs) = (n ≤ f.bit) × (f.bit < b) × (f.target < count) × AreFires count b fs

  abbrev AreBits : ℕ → List ℕ → Type 0
  AreBits b [] = Unit {0}
  AreBits b (k ∷ ks) = (n ≤ k) × (k < b) × AreBits b ks

  fires_more : (fs : List FireBit) (count b c : ℕ) → b ≤ c → AreFires count b fs → AreFires count c fs
  fires_more [] count b c le h = tt
  fires_more (f ∷ fs) count b c le h = (h.0, omega (arith, h.1), h.2, fires_more fs count b c le h.3)

  fires_append : (xs ys : List FireBit) (count b : ℕ) → AreFires count b xs → AreFires count b ys → AreFires count b (xs ++ ys)
  fires_append [] ys count b h i = i
  fires_append (x ∷ xs) ys count b h i = (h.0, h.1, h.2, fires_append xs ys count b h.3 i)

  bits_more : (ks : List ℕ) (b c : ℕ) → b ≤ c → AreBits b ks → AreBits c ks
  bits_more [] b c le h = tt
  bits_more (k ∷ ks) b c le h = (h.0, omega (arith, h.1), bits_more ks b c le h.2)

  bits_appended : (xs ys : List ℕ) (b : ℕ) → AreBits b xs → AreBits b ys → AreBits b (xs ++ ys)
  bits_appended [] ys b h i = i
  bits_appended (x ∷ xs) ys b h i = (h.0, h.1, bits_appended xs ys b h.2 i)

  transition_fires_are : (ts : List Transition) (count b c : ℕ) → n ≤ b → b + transition_bits ts ≤ c → AreTargets count ts → AreFires count c (transition_fires b ts)
  transition_fires_are [] count b c above room z = tt
  transition_fires_are (t ∷ ts) count b c above room z = (omega arith, omega arith, z.0, transition_fires_are ts count (suc (b + guard_bits t.guard)) c (omega arith) (omega arith) z.1)

  timeout_fires_are : (w : Option Timeout) (count b c : ℕ) → n ≤ b → b + timeout_bits w ≤ c → IsCounting count w → AreFires count c (timeout_fires b w)
  timeout_fires_are None count b c above room z = tt
  timeout_fires_are (Some w) count b c above room z = (omega arith, omega arith, z.1, tt)

  fire_literals_fine : (fs : List FireBit) (count b : ℕ) → AreFires count b fs → AllFine b (fire_literals fs)
  fire_literals_fine [] count b h = tt
  fire_literals_fine (f ∷ fs) count b h = (fresh f.bit b h.0 h.1, fire_literals_fine fs count b h.3)

  entering_fine : (fs : List FireBit) (count b q : ℕ) → AreFires count b fs → AllFine b (entering fs q)
  entering_fine [] count b q h = tt
  entering_fine (f ∷ fs) count b q h = elim (true_or_false (nat_eq f.target q)) [
    | inl y ↦ rw y (fresh f.bit b h.0 h.1, entering_fine fs count b q h.3)
    | inr y ↦ rw y (entering_fine fs count b q h.3)
  ]

  -- transitions
  transitions_fine : (ts : List Transition) (sc : Scope) (count live b : ℕ) → one < b → n ≤ live → live < b → ReadsSignals sc → AreTransitions sc ts → AreTargets count ts
      → AreLines b (transition_lines one live b ts) × AllFine (b + transition_bits ts) (refusals one b ts) × AreFires count (b + transition_bits ts) (transition_fires b ts)
  transitions_fine [] sc count live b above llow lbelow i h t = (tt, tt, tt)
  transitions_fine (t ∷ ts) sc count live b above llow lbelow i h z =
      let g = guard_bits t.guard in
      let r = guard_fine t.guard sc b above i h.0 in
      let q = transitions_fine ts sc count live (suc (b + g)) (omega arith) llow (omega arith) i h.2 z.1 in
      let le : suc (b + g) + transition_bits ts ≤ b + transition_bits (t ∷ ts) = omega arith in (
        lines_behind (guard_lines one b t.guard) (lines.all (plus live ∷ guard_literal one b t.guard ∷ []) ∷ transition_lines one live (suc (b + g)) ts) b g (bits-guard t.guard one b) r.0 ((fresh live (b + g) llow (omega arith), (r.1, tt)), q.0),
        (fine_more (guard_literal one b t.guard) (b + g) (b + transition_bits (t ∷ ts)) (omega arith) r.1, all_more (refusals one (suc (b + g)) ts) (suc (b + g) + transition_bits ts) (b + transition_bits (t ∷ ts)) le q.1),
        (omega arith, omega arith, z.0, fires_more (transition_fires (suc (b + g)) ts) count (suc (b + g) + transition_bits ts) (b + transition_bits (t ∷ ts)) le q.2),
      )

  timeout_fine : (w : Option Timeout) (sc : Scope) (count live r first b : ℕ) (none : List Literal) → n ≤ live → live < b → r < R → ReadsSignals sc → IsTimeout sc w → IsCounting count w → first + counts_of w ≤ 65536 → AllFine b none
      → AreLines b (timeout_lines live r first b none w) × AreFires count (b + timeout_bits w) (timeout_fires b w) × AreBits (b + timeout_bits w) (timeout_ticks b w)
  timeout_fine None sc count live r first b none llow lbelow rb i h z room f = (tt, tt, tt)
  timeout_fine (Some w) sc count live r first b none llow lbelow rb i h z room f = (
    (
      (fresh live b llow lbelow, f),
      (
        (rb, omega arith, omega arith),
        (
          (fresh b (suc (suc b)) (omega arith) (omega arith), (signal_fine w.signal (suc (suc b)) (omega arith) (i w.signal h.0), (fresh (suc b) (suc (suc b)) (omega arith) (omega arith), tt))),
          ((fresh b (suc (suc (suc b))) (omega arith) (omega arith), (signal_fine w.signal (suc (suc (suc b))) (omega arith) (i w.signal h.0), (fresh_minus (suc b) (suc (suc (suc b))) (omega arith) (omega arith), tt))), tt),
        ),
      ),
    ),
    (omega arith, omega arith, z.1, tt),
    (omega arith, omega arith, tt),
  )

  -- states without bodies
  own_fine : (ss : States) (sc : Scope) (count : ℕ) (run : Literal) (r first b : ℕ) → one < b → Fine b run → r < R → ReadsSignals sc → AreScopedStates sc ss → AreShapedStates count ss → first + code_count ss ≤ 65536
      → AreLines b (own_lines ss one run r first b) × AreFires count (b + own_bits ss) (own_fires ss b) × AreBits (b + own_bits ss) (own_ticks ss b)
  own_fine no_states sc count run r first b above f rb i h z room = (tt, tt, tt)
  own_fine (state x p ss) sc count run r first b above f rb i h z room =
      let ts = x.transitions in
      let w = x.timeout in
      let tb = transition_bits ts in
      let sb = state_bits ts w in
      let k = suc (suc b) in
      let a = transitions_fine ts sc count (suc b) k (omega arith) (omega arith) (omega arith) i h.0 z.0 in
      let c = timeout_fine w sc count (suc b) r first (k + tb) (refusals one k ts) (omega arith) (omega arith) rb i h.1 z.1 (omega arith) a.1 in
      let here : AreLines b (state_lines one run r first b ts w) = (
        (rb, omega (arith, counts_positive count w z.1), omega arith),
        (
          (fine_more run b (suc b) (omega arith) f, (fresh b (suc b) (omega arith) (omega arith), tt)),
          lines_behind (transition_lines one (suc b) k ts) (timeout_lines (suc b) r first (k + tb) (refusals one k ts) w) k tb (bits-transitions ts one (suc b) k) a.0 c.0,
        ),
      )
      in
      let rest = own_fine ss sc count run r (first + counts_of w) (b + sb) (omega arith) (fine_more run b (b + sb) (omega arith) f) rb i h.3 z.3 (omega arith) in (
        lines_behind (state_lines one run r first b ts w) (own_lines ss one run r (first + counts_of w) (b + sb)) b sb (bits-state ts w one run r first b) here rest.0,
        fires_append (state_fire_bits b ts w) (own_fires ss (b + sb)) count (b + own_bits (state x p ss))
            (fires_append (transition_fires k ts) (timeout_fires (k + tb) w) count (b + own_bits (state x p ss)) (fires_more (transition_fires k ts) count (k + tb) (b + own_bits (state x p ss)) (omega arith) a.2) (fires_more (timeout_fires (k + tb) w) count (k + tb + timeout_bits w) (b + own_bits (state x p ss)) (omega arith) c.1))
            (fires_more (own_fires ss (b + sb)) count (b + sb + own_bits ss) (b + own_bits (state x p ss)) (omega arith) rest.1),
        bits_appended (timeout_ticks (k + tb) w) (own_ticks ss (b + sb)) (b + own_bits (state x p ss)) (bits_more (timeout_ticks (k + tb) w) (k + tb + timeout_bits w) (b + own_bits (state x p ss)) (omega arith) c.2) (bits_more (own_ticks ss (b + sb)) (b + sb + own_bits ss) (b + own_bits (state x p ss)) (omega arith) rest.2),
      )

  -- the register
  fire_cases_fine : (ss : States) (fs : List FireBit) (b : ℕ) → ((q : ℕ) → q < length (rules_of ss) → first_code ss q ≤ 65535) → AreFires (length (rules_of ss)) b fs → AreCases b (fire_cases (first_code ss) fs)
  fire_cases_fine ss [] b codes h = tt
  fire_cases_fine ss (f ∷ fs) b codes h = (fresh f.bit b h.0 h.1, codes f.target h.2, fire_cases_fine ss fs b codes h.3)

  tick_cases_fine : (bs : List ℕ) (r b : ℕ) → r < R → AreBits b bs → AreCases b (tick_cases r bs)
  tick_cases_fine [] r b rb h = tt
  tick_cases_fine (k ∷ bs) r b rb h = (fresh k b h.0 h.1, rb, tick_cases_fine bs r b rb h.2)

  started_fine : (start : Literal) (here : Bool) (b : ℕ) → Fine b start → AllFine b (if here then start ∷ [] else [])
  started_fine start true b h = (h, tt)
  started_fine start false b h = tt

  mutual
    pub process_fine : (p : Process) (sc : Scope) (b r : ℕ) (run start kill : Literal) → one < b → r + register_count p ≤ R → Fine b run → Fine b start → Fine b kill → ReadsSignals sc → AreSignals (locals_in p) → IsScoped sc p → IsShaped p → AreLines b (process_lines p one b r run start kill)
    process_fine (automaton ss q0) sc b r run start kill above rb f g e i u h z =
        let count = length (rules_of ss) in
        let own = own_fine ss sc count run r 1 (suc b) (omega arith) (fine_more run b (suc b) (omega arith) f) (omega arith) i h.1 z.2 (omega (arith, z.1)) in
        let k = suc b + own_bits ss in
        let fires = own_fires ss (suc b) in
        let enters : ℕ → List Literal = entering fires in
        let starts : ℕ → List Literal = λ q. if nat_eq q0 q then start ∷ [] else [] in
        let codes : (q : ℕ) → q < count → first_code ss q ≤ 65535 = λ q below. omega (arith, first_fits ss count q z.2 below, z.1) in
        let register : IsLine k (register_line ss q0 r start kill fires (own_ticks ss (suc b))) = (
          (fine_more start b k (omega arith) g, codes q0 z.0, (fine_more kill b k (omega arith) e, omega arith, cases_append (fire_cases (first_code ss) fires) (tick_cases r (own_ticks ss (suc b))) k (fire_cases_fine ss fires k codes own.1) (tick_cases_fine (own_ticks ss (suc b)) r k (omega arith) own.2))),
          omega arith,
        )
        in
        let bodies = bodies_lines ss one b (suc r) enters starts kill (suc b) k in (
          (g, (e, tt)),
          lines_behind (own_lines ss one run r 1 (suc b)) (register_line ss q0 r start kill fires (own_ticks ss (suc b)) ∷ bodies) (suc b) (own_bits ss) (bits-own ss one run r 1 (suc b)) own.0
              (register, bodies_fine ss sc count b (suc r) enters starts kill (suc b) k (omega arith) (omega arith) (omega arith) (omega arith) (omega arith) (λ q. entering_fine fires count k q own.1) (λ q. started_fine start (nat_eq q0 q) k (fine_more start b k (omega arith) g)) (fine_more kill b k (omega arith) e) i u h.1 z.2),
        )
    process_fine (parallel ps) sc b r run start kill above rb f g e i u h z = parts_fine ps sc b r run start kill above rb f g e i u h z.1
    process_fine (local list p) sc b r run start kill above rb f g e i u h z =
        process_fine p (within_locals sc list) b r run start kill above rb f g e (reads_within sc list i (λ k l. u k (lists-left list (locals_in p) k l))) (λ k l. u k (lists-right list (locals_in p) k l)) h z
    process_fine (freeze x p) sc b r run start kill above rb f g e i u h z =
        let stop = signal_fine x b (omega arith) (i x h.0) in
        ((f, (stop, tt)), process_fine p sc (suc b) r (plus b) start kill (omega arith) rb (fresh b (suc b) (omega arith) (omega arith)) (fine_more start b (suc b) (omega arith) g) (fine_more kill b (suc b) (omega arith) e) i u h.1 z)

    parts_fine : (ps : Processes) (sc : Scope) (b r : ℕ) (run start kill : Literal) → one < b → r + registers_of ps ≤ R → Fine b run → Fine b start → Fine b kill → ReadsSignals sc → AreSignals (locals_in_parts ps) → AreScopedParts sc ps → AreShapedParts ps → AreLines b (parts_lines ps one b r run start kill)
    parts_fine no_processes sc b r run start kill above rb f g e i u h z = tt
    parts_fine (process p ps) sc b r run start kill above rb f g e i u h z =
        let k = b + process_bits p in
        lines_behind (process_lines p one b r run start kill) (parts_lines ps one k (r + register_count p) run start kill) b (process_bits p) (bits-process p one b r run start kill)
        (process_fine p sc b r run start kill above (omega arith) f g e i (λ j l. u j (lists-left (locals_in p) (locals_in_parts ps) j l)) h.0 z.0)
        (parts_fine ps sc k (r + register_count p) run start kill (omega arith) (omega arith) (fine_more run b k (omega arith) f) (fine_more start b k (omega arith) g) (fine_more kill b k (omega arith) e) i (λ j l. u j (lists-right (locals_in p) (locals_in_parts ps) j l)) h.1 z.1)

    bodies_fine : (ss : States) (sc : Scope) (count go r : ℕ) (enters starts : ℕ → List Literal) (kill : Literal) (own b : ℕ) → one < b → n ≤ go → go < own → own + own_bits ss ≤ b → r + registers_in ss ≤ R → ((q : ℕ) → AllFine b (enters q)) → ((q : ℕ) → AllFine b (starts q)) → Fine b kill → ReadsSignals sc → AreSignals (locals_in_states ss) → AreScopedStates sc ss → AreShapedStates count ss
        → AreLines b (bodies_lines ss one go r enters starts kill own b)
    bodies_fine no_states sc count go r enters starts kill own b above golow gobelow room rb f g e i u h z = tt
    bodies_fine (state y p ss) sc count go r enters starts kill own b above golow gobelow room rb f g e i u h z =
        let ts = y.transitions in
        let w = y.timeout in
        let fires : AreFires count b (state_fire_bits own ts w) = fires_append (transition_fires (suc (suc own)) ts) (timeout_fires (suc (suc own) + transition_bits ts) w) count b (transition_fires_are ts count (suc (suc own)) b (omega arith) (omega arith) z.0) (timeout_fires_are w count (suc (suc own) + transition_bits ts) b (omega arith) (omega arith) z.1) in
        let leaves = fire_literals (state_fire_bits own ts w) in
        let more = b + body_bits p in
        lines_behind (body_lines p one go r (suc own) leaves (enters 0) (starts 0) kill b) (bodies_lines ss one go (r + registers_within p) (λ q. enters (suc q)) (λ q. starts (suc q)) kill (own + state_bits ts w) more) b (body_bits p) (bits-body p one go r (suc own) leaves (enters 0) (starts 0) kill b)
        (body_fine p sc go r (suc own) leaves (enters 0) (starts 0) kill b above golow (omega arith) (omega arith) (omega arith) (omega arith) (fire_literals_fine (state_fire_bits own ts w) count b fires) (f 0) (g 0) e i (λ j l. u j (lists-left (locals_in_body p) (locals_in_states ss) j l)) h.2 z.2)
        (bodies_fine ss sc count go (r + registers_within p) (λ q. enters (suc q)) (λ q. starts (suc q)) kill (own + state_bits ts w) more (omega arith) golow (omega arith) (omega arith) (omega arith) (λ q. all_more (enters (suc q)) b more (omega arith) (f (suc q))) (λ q. all_more (starts (suc q)) b more (omega arith) (g (suc q))) (fine_more kill b more (omega arith) e) i (λ j l. u j (lists-right (locals_in_body p) (locals_in_states ss) j l)) h.3 z.3)

    body_fine : (p : Body) (sc : Scope) (go r live : ℕ) (leaves enters starts : List Literal) (kill : Literal) (b : ℕ) → one < b → n ≤ go → go < b → n ≤ live → live < b → r + registers_within p ≤ R → AllFine b leaves → AllFine b enters → AllFine b starts → Fine b kill → ReadsSignals sc → AreSignals (locals_in_body p) → IsScopedBody sc p → IsShapedBody p
        → AreLines b (body_lines p one go r live leaves enters starts kill b)
    body_fine no_body sc go r live leaves enters starts kill b above golow gobelow llow lbelow rb l f g e i u h z = tt
    body_fine (body p) sc go r live leaves enters starts kill b above golow gobelow llow lbelow rb l f g e i u h z =
        let b1 = suc b in
        let b2 = suc (suc b) in
        let b3 = suc (suc (suc b)) in
        let b4 = suc (suc (suc (suc b))) in (
          all_append leaves (kill ∷ []) b l (e, tt),
          (
            all_more enters b b1 (omega arith) f,
            (
              (fresh go b2 golow (omega arith), (fresh b1 b2 (omega arith) (omega arith), tt)),
              (
                (fresh b2 b3 (omega arith) (omega arith), all_more starts b b3 (omega arith) g),
                process_fine p sc b4 r (plus live) (plus b3) (plus b) (omega arith) rb (fresh live b4 llow (omega arith)) (fresh b3 b4 (omega arith) (omega arith)) (fresh b b4 (omega arith) (omega arith)) i u h z,
              ),
            ),
          ),
        )
