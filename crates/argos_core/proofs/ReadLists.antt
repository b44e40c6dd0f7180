-- What is read of what stands in a list, one after the other.
use Rattle.std.proofs.Common.{◌≡◌, ℕ, zero, suc, ◌+◌, ◌-◌, ◌<◌, ◌≤◌, List, [], ◌∷◌, ◌++◌, Option, Some, None, if◌then◌else◌, nat_lt, ap, refl, sym, subst, ◌∙◌, map, length, get_or, take, drop, Vec, length-drop, arith}
use Rattle.std.proofs.Math.Path.{fun_ext}
use Rattle.std.proofs.lemmas.Grind.{common_steps}
use Rattle.std.proofs.lemmas.List.{at_drop_more, at_drop_all, take_all}
use Rattle.std.specs.Prelude.{Box}
use Rattle.std.specs.declared.alloc.Global.{Global}
use Rattle.argos_core.specs.Automata.{counts_of, register_count, registers_of, registers_in, registers_within}
use Rattle.argos_core.specs.Process.{Configuration, at, beside, Inner, Configurations, no_configurations, configuration}
use Rattle.argos_core.specs.inner.Reading.{Read, after, skipped, Place, shifted, place_behind, read, read_parts, read_in, read_at, read_within}
use Rattle.argos_core.specs.Views.{process_of, state_of, processes_of, states_of, configuration_of, configurations_of, inner_of}
use Rattle.argos_core.specs.declared.prog.Config.{Config}
use Rattle.argos_core.specs.declared.prog.Config.TheVariants as made
use Rattle.argos_core.specs.declared.prog.Prog.{Prog}
use Rattle.argos_core.specs.declared.prog.State.{State}
use Rattle.argos_core.proofs.ConfigurationViews.{configuration_of-At, configuration_of-Beside}

pub after-Some : {A B : Type 0} (x : A) (f : A → Option B) → after (Some x) f ≡ f x
unfolding after
after-Some x f = refl

pub after-None : {A B : Type 0} (f : A → Option B) → after None f ≡ None
unfolding after
after-None f = refl

-- zeros
skipped-next : (n a b : ℕ) (memory : List ℕ) → n ≡ suc a + b → ((l : List ℕ) → skipped (a + b) l ≡ after (skipped a l) (skipped b)) → skipped n memory ≡ after (skipped (suc a) memory) (skipped b)
unfolding after
skipped-next n a b memory is more = let e : n ≡ suc (a + b) = omega arith in ap (λ (k : ℕ). skipped k memory) e ∙ cases memory
  where
    cases : (l : List ℕ) → skipped (suc (a + b)) l ≡ after (skipped (suc a) l) (skipped b)
    cases [] = refl
    cases (zero ∷ l) = more l
    cases (suc k ∷ l) = refl

pub skipped-add : (a b : ℕ) (memory : List ℕ) → skipped (a + b) memory ≡ after (skipped a memory) (skipped b)
unfolding after
skipped-add zero b memory = let e : 0 + b ≡ b = omega arith in ap (λ (k : ℕ). skipped k memory) e
skipped-add (suc a) b memory = skipped-next (suc a + b) a b memory refl (λ l. skipped-add a b l)

pub skipped_parts-drop : (ps : List Prog) (i : ℕ) (d : Prog) (memory : List ℕ) → i < length ps
    → skipped (registers_of (processes_of (map process_of (drop i ps)))) memory ≡ after (skipped (register_count (process_of (get_or ps i d))) memory) (skipped (registers_of (processes_of (map process_of (drop (i + 1) ps)))))
skipped_parts-drop ps i d memory below =
    ap (λ (n : ℕ). skipped n memory) (at_drop_more (λ xs. registers_of (processes_of (map process_of xs))) ps i d below)
    ∙ skipped-add (register_count (process_of (get_or ps i d))) (registers_of (processes_of (map process_of (drop (i + 1) ps)))) memory

pub skipped_states-drop : (ss : List State) (i : ℕ) (d : State) (memory : List ℕ) → i < length ss
    → skipped (registers_in (states_of (map state_of (drop i ss)))) memory ≡ after (skipped (registers_within (state_of (get_or ss i d)).body) memory) (skipped (registers_in (states_of (map state_of (drop (i + 1) ss)))))
skipped_states-drop ss i d memory below =
    ap (λ (n : ℕ). skipped n memory) (at_drop_more (λ xs. registers_in (states_of (map state_of xs))) ss i d below)
    ∙ skipped-add (registers_within (state_of (get_or ss i d)).body) (registers_in (states_of (map state_of (drop (i + 1) ss)))) memory

-- where what is next has no zeros, and where it has them
pub parts_stuck : (ps : List Prog) (i : ℕ) (p : Prog) (memory : List ℕ) → i < length ps → p ≡ get_or ps i p → skipped (register_count (process_of p)) memory ≡ None → skipped (registers_of (processes_of (map process_of (drop i ps)))) memory ≡ None
parts_stuck ps i p memory below here h =
    let f = skipped (registers_of (processes_of (map process_of (drop (i + 1) ps)))) in
    skipped_parts-drop ps i p memory below ∙ ap (λ x. after x f) (subst (λ (x : Prog). skipped (register_count (process_of x)) memory ≡ None) here h) ∙ after-None f

pub parts_taken : (ps : List Prog) (i : ℕ) (p : Prog) (memory rest : List ℕ) → i < length ps → p ≡ get_or ps i p → skipped (register_count (process_of p)) memory ≡ Some rest
    → skipped (registers_of (processes_of (map process_of (drop i ps)))) memory ≡ skipped (registers_of (processes_of (map process_of (drop (i + 1) ps)))) rest
parts_taken ps i p memory rest below here h =
    let f = skipped (registers_of (processes_of (map process_of (drop (i + 1) ps)))) in
    skipped_parts-drop ps i p memory below ∙ ap (λ x. after x f) (subst (λ (x : Prog). skipped (register_count (process_of x)) memory ≡ Some rest) here h) ∙ after-Some rest f

pub states_stuck : (ss : List State) (i : ℕ) (s : State) (memory : List ℕ) → i < length ss → s ≡ get_or ss i s → skipped (registers_within (state_of s).body) memory ≡ None → skipped (registers_in (states_of (map state_of (drop i ss)))) memory ≡ None
states_stuck ss i s memory below here h =
    let f = skipped (registers_in (states_of (map state_of (drop (i + 1) ss)))) in
    skipped_states-drop ss i s memory below ∙ ap (λ x. after x f) (subst (λ (x : State). skipped (registers_within (state_of x).body) memory ≡ None) here h) ∙ after-None f

pub states_taken : (ss : List State) (i : ℕ) (s : State) (memory rest : List ℕ) → i < length ss → s ≡ get_or ss i s → skipped (registers_within (state_of s).body) memory ≡ Some rest
    → skipped (registers_in (states_of (map state_of (drop i ss)))) memory ≡ skipped (registers_in (states_of (map state_of (drop (i + 1) ss)))) rest
states_taken ss i s memory rest below here h =
    let f = skipped (registers_in (states_of (map state_of (drop (i + 1) ss)))) in
    skipped_states-drop ss i s memory below ∙ ap (λ x. after x f) (subst (λ (x : State). skipped (registers_within (state_of x).body) memory ≡ Some rest) here h) ∙ after-Some rest f

-- the place of a code among the states that are left
pub shifted-none : (x : Option Place) → shifted 0 x ≡ x
shifted-none None = refl
shifted-none (Some z) = let e : 0 + z.number ≡ z.number = omega arith in ap (λ (n : ℕ). Some (record { number = n; elapsed = z.elapsed })) e

pub shifted-one : (n : ℕ) (x : Option Place) → shifted n (shifted 1 x) ≡ shifted (n + 1) x
shifted-one n None = refl
shifted-one n (Some z) = let e : n + (1 + z.number) ≡ n + 1 + z.number = omega arith in ap (λ (m : ℕ). Some (record { number = m; elapsed = z.elapsed })) e

pub place_behind-drop : (ss : List State) (i before : ℕ) (d : State) → i < length ss
    → place_behind (states_of (map state_of (drop i ss))) before ≡ (if nat_lt before (counts_of (state_of (get_or ss i d)).rules.timeout) then Some (record { number = 0; elapsed = before }) else shifted 1 (place_behind (states_of (map state_of (drop (i + 1) ss))) (before - counts_of (state_of (get_or ss i d)).rules.timeout)))
place_behind-drop ss i before = at_drop_more (λ xs. place_behind (states_of (map state_of xs)) before) ss i

-- parts one by one, behind the configurations that were read
abbrev pub before : List Configuration → Configurations → Configurations
before [] ds = ds
before (c ∷ cs) ds = configuration c (before cs ds)

abbrev pub prepended : List Configuration → Option (Read Configurations) → Option (Read Configurations)
prepended cs None = None
prepended cs (Some y) = Some (record { value = before cs y.value; rest = y.rest })

before-push : (cs : List Configuration) (c : Configuration) (ds : Configurations) → before (cs ++ c ∷ []) ds ≡ before cs (configuration c ds)
before-push [] c ds = refl
before-push (b ∷ cs) c ds = ap (configuration b) (before-push cs c ds)

pub before-none : (cs : List Configuration) → before cs no_configurations ≡ configurations_of cs
before-none [] = refl
before-none (c ∷ cs) = ap (configuration c) (before-none cs)

pub prepended-none : (x : Option (Read Configurations)) → prepended [] x ≡ x
prepended-none None = refl
prepended-none (Some y) = refl

pub read_parts_stuck : (ps : List Prog) (i : ℕ) (p : Prog) (memory : List ℕ) → i < length ps → p ≡ get_or ps i p → read (process_of p) memory ≡ None → read_parts (processes_of (map process_of (drop i ps))) memory ≡ None
unfolding after
read_parts_stuck ps i p memory below here h =
    let f = λ (c : Read Configuration). after (read_parts (processes_of (map process_of (drop (i + 1) ps))) c.rest) (λ cs. Some (record { value = configuration c.value cs.value; rest = cs.rest })) in
    at_drop_more (λ xs. read_parts (processes_of (map process_of xs)) memory) ps i p below ∙ ap (λ x. after x f) (subst (λ (x : Prog). read (process_of x) memory ≡ None) here h)

read_next : (cs : List Configuration) (c : Configuration) (x : Option (Read Configurations)) → prepended cs (after x (λ y. Some (record { value = configuration c y.value; rest = y.rest }))) ≡ prepended (cs ++ c ∷ []) x
unfolding after
read_next cs c None = refl
read_next cs c (Some y) = ap (λ ds. Some (record { value = ds; rest = y.rest })) (sym (before-push cs c y.value))

pub read_parts_taken : (ps : List Prog) (i : ℕ) (p : Prog) (memory rest : List ℕ) (cs : List Configuration) (c : Configuration) → i < length ps → p ≡ get_or ps i p → read (process_of p) memory ≡ Some (record { value = c; rest = rest })
    → prepended cs (read_parts (processes_of (map process_of (drop i ps))) memory) ≡ prepended (cs ++ c ∷ []) (read_parts (processes_of (map process_of (drop (i + 1) ps))) rest)
unfolding after
read_parts_taken ps i p memory rest cs c below here h =
    let f = λ (c : Read Configuration). after (read_parts (processes_of (map process_of (drop (i + 1) ps))) c.rest) (λ cs. Some (record { value = configuration c.value cs.value; rest = cs.rest })) in
    ap (prepended cs) (at_drop_more (λ xs. read_parts (processes_of (map process_of xs)) memory) ps i p below ∙ ap (λ x. after x f) (subst (λ (x : Prog). read (process_of x) memory ≡ Some (record { value = c; rest = rest })) here h))
    ∙ read_next cs c (read_parts (processes_of (map process_of (drop (i + 1) ps))) rest)

-- a state with those before and behind it
after-after : {A B C : Type 0} (x : Option A) (f : A → Option B) (g : B → Option C) → after (after x f) g ≡ after x (λ a. after (f a) g)
unfolding after
after-after None f g = refl
after-after (Some x) f g = refl

read_in-next : (ss : List State) (q : ℕ) (d : State) (memory : List ℕ) → q < length ss
    → read_in (states_of (map state_of ss)) q memory
    ≡ after (skipped (registers_in (states_of (map state_of (take q ss)))) memory) (λ l. after (read_within (state_of (get_or ss q d)).body l) (λ b. after (skipped (registers_in (states_of (map state_of (drop (suc q) ss)))) b.rest) (λ rest. Some (record { value = b.value; rest = rest }))))
unfolding after
read_in-next [] q d memory below = absurd (omega arith)
read_in-next (s ∷ ss) zero d memory below = refl
read_in-next (s ∷ ss) (suc q) d memory below =
    let own = registers_within (state_of s).body in
    let others = registers_in (states_of (map state_of (take q ss))) in
    let f = λ (l : List ℕ). after (read_within (state_of (get_or ss q d)).body l) (λ b. after (skipped (registers_in (states_of (map state_of (drop (suc q) ss)))) b.rest) (λ rest. Some (record { value = b.value; rest = rest }))) in
    ap (after (skipped own memory)) (fun_ext (λ l. read_in-next ss q d l (omega arith)))
    ∙ sym (after-after (skipped own memory) (skipped others) f)
    ∙ ap (λ x. after x f) (sym (skipped-add own others memory))

pub read_in-at : (ss : List State) (q : ℕ) (d : State) (memory : List ℕ) → q < length ss
    → read_in (states_of (map state_of ss)) q memory
    ≡ after (skipped (registers_in (states_of (map state_of (take q ss)))) memory) (λ l. after (read_within (state_of (get_or ss q d)).body l) (λ b. after (skipped (registers_in (states_of (map state_of (drop (q + 1) ss)))) b.rest) (λ rest. Some (record { value = b.value; rest = rest }))))
read_in-at ss q d memory below =
    let e : suc q ≡ q + 1 = omega arith in
    read_in-next ss q d memory below ∙ ap (λ (k : ℕ). after (skipped (registers_in (states_of (map state_of (take q ss)))) memory) (λ l. after (read_within (state_of (get_or ss q d)).body l) (λ b. after (skipped (registers_in (states_of (map state_of (drop k ss)))) b.rest) (λ rest. Some (record { value = b.value; rest = rest }))))) e

-- what stands inside a state, between zeros
abbrev around : Option (List ℕ) → (List ℕ → Option (Read Inner)) → (List ℕ → Option (List ℕ)) → Option (Read Inner)
around x f g = after x (λ l. after (f l) (λ b. after (g b.rest) (λ rest. Some (record { value = b.value; rest = rest }))))

abbrev with_state : ℕ → ℕ → Option (Read Inner) → Option (Read Configuration)
with_state q e x = after x (λ b. Some (record { value = at q e b.value; rest = b.rest }))

around_inside : (x : Option (List ℕ)) (f : List ℕ → Option (Read Inner)) (g : List ℕ → Option (List ℕ)) (l : List ℕ) → x ≡ Some l → around x f g ≡ after (f l) (λ b. after (g b.rest) (λ rest. Some (record { value = b.value; rest = rest })))
unfolding after
around_inside x f g l h = ap (λ y. around y f g) h

around_behind : (x : Option (List ℕ)) (f : List ℕ → Option (Read Inner)) (g : List ℕ → Option (List ℕ)) (l rest : List ℕ) (b : Inner) → x ≡ Some l → f l ≡ Some (record { value = b; rest = rest }) → around x f g ≡ after (g rest) (λ m. Some (record { value = b; rest = m }))
unfolding after
around_behind x f g l rest b h k = around_inside x f g l h ∙ ap (λ y. after y (λ c. after (g c.rest) (λ m. Some (record { value = c.value; rest = m })))) k

stuck_before : (ss : List State) (q e : ℕ) (s : State) (memory : List ℕ) → q < length ss → skipped (registers_in (states_of (map state_of (take q ss)))) memory ≡ None → read_at (states_of (map state_of ss)) q e memory ≡ None
unfolding after
stuck_before ss q e s memory below h =
    let f = read_within (state_of (get_or ss q s)).body in
    let g = skipped (registers_in (states_of (map state_of (drop (q + 1) ss)))) in
    ap (with_state q e) (read_in-at ss q s memory below ∙ ap (λ y. around y f g) h)

pub state_stuck_before : (ss : List State) (q e : ℕ) (memory : List ℕ) → q < length ss → skipped (registers_in (states_of (map state_of (take q ss)))) memory ≡ None → read_at (states_of (map state_of ss)) q e memory ≡ None
state_stuck_before [] q e memory below h = absurd (omega arith)
state_stuck_before (s ∷ ss) q e memory below h = stuck_before (s ∷ ss) q e s memory below h

-- what is cut off at both ends
pub rest_taken : (xs : List State) (n : ℕ) → take (length xs - n) (drop n xs) ≡ drop n xs
rest_taken xs n = take_all (length xs - n) (drop n xs) (omega (arith, length-drop n xs))

pub state_stuck_inside : (ss : List State) (q e : ℕ) (s : State) (memory l : List ℕ) → q < length ss → s ≡ get_or ss q s → skipped (registers_in (states_of (map state_of (take q ss)))) memory ≡ Some l → read_within (state_of s).body l ≡ None
    → read_at (states_of (map state_of ss)) q e memory ≡ None
unfolding after
state_stuck_inside ss q e s memory l below here h k =
    let f = read_within (state_of (get_or ss q s)).body in
    let g = skipped (registers_in (states_of (map state_of (drop (q + 1) ss)))) in
    let k' : f l ≡ None = subst (λ (x : State). read_within (state_of x).body l ≡ None) here k in
    ap (with_state q e) (read_in-at ss q s memory below ∙ around_inside (skipped (registers_in (states_of (map state_of (take q ss)))) memory) f g l h ∙ ap (λ y. after y (λ b. after (g b.rest) (λ rest. Some (record { value = b.value; rest = rest })))) k')

state_behind : (ss : List State) (q e : ℕ) (s : State) (memory l rest : List ℕ) (b : Inner) → q < length ss → s ≡ get_or ss q s → skipped (registers_in (states_of (map state_of (take q ss)))) memory ≡ Some l → read_within (state_of s).body l ≡ Some (record { value = b; rest = rest })
    → read_at (states_of (map state_of ss)) q e memory ≡ with_state q e (after (skipped (registers_in (states_of (map state_of (drop (q + 1) ss)))) rest) (λ m. Some (record { value = b; rest = m })))
state_behind ss q e s memory l rest b below here h k =
    let f = read_within (state_of (get_or ss q s)).body in
    let g = skipped (registers_in (states_of (map state_of (drop (q + 1) ss)))) in
    let k' : f l ≡ Some (record { value = b; rest = rest }) = subst (λ (x : State). read_within (state_of x).body l ≡ Some (record { value = b; rest = rest })) here k in
    ap (with_state q e) (read_in-at ss q s memory below ∙ around_behind (skipped (registers_in (states_of (map state_of (take q ss)))) memory) f g l rest b h k')

pub state_stuck_behind : (ss : List State) (q e : ℕ) (s : State) (memory l rest : List ℕ) (b : Inner) → q < length ss → s ≡ get_or ss q s → skipped (registers_in (states_of (map state_of (take q ss)))) memory ≡ Some l → read_within (state_of s).body l ≡ Some (record { value = b; rest = rest })
    → skipped (registers_in (states_of (map state_of (drop (q + 1) ss)))) rest ≡ None → read_at (states_of (map state_of ss)) q e memory ≡ None
unfolding after
state_stuck_behind ss q e s memory l rest b below here h k z = state_behind ss q e s memory l rest b below here h k ∙ ap (λ y. with_state q e (after y (λ m. Some (record { value = b; rest = m })))) z

pub state_read : (ss : List State) (q e : ℕ) (s : State) (memory l rest end : List ℕ) (b : Option (Box Config Global)) → q < length ss → s ≡ get_or ss q s → skipped (registers_in (states_of (map state_of (take q ss)))) memory ≡ Some l → read_within (state_of s).body l ≡ Some (record { value = inner_of b; rest = rest })
    → skipped (registers_in (states_of (map state_of (drop (q + 1) ss)))) rest ≡ Some end → read_at (states_of (map state_of ss)) q e memory ≡ Some (record { value = configuration_of (made.At q e b); rest = end })
unfolding after
state_read ss q e s memory l rest end b below here h k z =
    state_behind ss q e s memory l rest (inner_of b) below here h k
    ∙ ap (λ y. with_state q e (after y (λ m. Some (record { value = inner_of b; rest = m })))) z
    ∙ ap (λ c. Some (record { value = c; rest = end })) (sym (configuration_of-At q e b))

-- all parts
pub parts_read : (ps : List Prog) (i : ℕ) (cs : List Configuration) (rest : List ℕ) → length ps ≤ i → prepended cs (read_parts (processes_of (map process_of (drop i ps))) rest) ≡ Some (record { value = configurations_of cs; rest = rest })
parts_read ps i cs rest past = at_drop_all (λ xs. prepended cs (read_parts (processes_of (map process_of xs)) rest)) ps i past ∙ ap (λ ds. Some (record { value = ds; rest = rest })) (before-none cs)

abbrev beside_all : Option (Read Configurations) → Option (Read Configuration)
beside_all x = after x (λ ds. Some (record { value = beside ds.value; rest = ds.rest }))

pub parallel_read : (x : Option (Read Configurations)) (cs : Vec Config Global) (rest : List ℕ) → x ≡ Some (record { value = configurations_of (map configuration_of cs.items); rest = rest })
    → beside_all x ≡ Some (record { value = configuration_of (made.Beside cs); rest = rest })
unfolding after
parallel_read x cs rest h = ap beside_all h ∙ ap (λ c. Some (record { value = c; rest = rest })) (sym (configuration_of-Beside cs))

pub map-push : (cs : List Config) (c : Config) → map configuration_of (cs ++ c ∷ []) ≡ map configuration_of cs ++ configuration_of c ∷ []
map-push [] c = refl
map-push (b ∷ cs) c = ap (λ l. configuration_of b ∷ l) (map-push cs c)

pub ruleset read_lists = (common_steps, after-Some, after-None, skipped_parts-drop, skipped_states-drop, shifted-none, shifted-one, place_behind-drop)
