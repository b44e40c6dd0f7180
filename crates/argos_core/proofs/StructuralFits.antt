-- Structural memories fit the layout.
use Rattle.std.proofs.Common.{◌≡◌, ℕ, zero, suc, ◌+◌, ◌-◌, ◌<◌, ◌≤◌, List, [], ◌∷◌, ◌++◌, map, Option, Some, None, refl, sym, ap, subst, ◌∙◌, arith, length, replicate, append_assoc, append-nil, length-append, slice_get, Bool, ◌||◌, nat_eq, false}
use Rattle.std.specs.Prelude.{◌↔◌, slice_index_or}
use Rattle.argos_core.specs.Automata.{Automaton, Parent, counts_of, code_count, first_code, register_count, registers_of, registers_in, registers_within, automata_from, automata_of_parts, automata_in, automata_within, automata_of}
use Rattle.argos_core.specs.Codes.{code_of, codes_of, codes_in, codes_within, IsStructural}
use Rattle.argos_core.specs.Configurations.{IsConfiguration, AreOfParts, IsOfState, IsOfBody}
use Rattle.argos_core.specs.Layouts.{RegisterShape, shape_of, layout_of, IsOn, FitsLayout}
use Rattle.argos_core.specs.Process.{Process, automaton, parallel, local, freeze, Processes, no_processes, process, States, no_states, state, Body, no_body, body, Configuration, at, beside, Inner, no_inner, inner, Configurations, no_configurations, configuration}
use Rattle.argos_core.proofs.CodesDiffer.{length-code_of, length-codes_within, below_counts, first_code-positive}
use Rattle.argos_core.proofs.Zeros.{length-zeros, replicate-add}

-- the memory has this segment from register r on
pub record Segment (M : List ℕ) (r : ℕ) (seg : List ℕ) : Type 0 where
  pub before : List ℕ
  pub after : List ℕ
  pub is : M ≡ before ++ (seg ++ after)
  pub place : length before ≡ r

pub segment_left : (M : List ℕ) (r : ℕ) (a b : List ℕ) → Segment M r (a ++ b) → Segment M r a
segment_left M r a b s = record { before = s.before; after = b ++ s.after; is = s.is ∙ simp append_assoc; place = s.place }

pub segment_right : (M : List ℕ) (r : ℕ) (a b : List ℕ) → Segment M r (a ++ b) → Segment M (r + length a) b
segment_right M r a b s = record { before = s.before ++ a; after = s.after; is = s.is ∙ simp append_assoc; place = omega (arith, s.place, length-append s.before a) }

pub segment_tail : (M : List ℕ) (r x : ℕ) (xs : List ℕ) → Segment M r (x ∷ xs) → Segment M (suc r) xs
segment_tail M r x xs s = record { before = s.before ++ (x ∷ []); after = s.after; is = s.is ∙ simp append_assoc; place = omega (arith, s.place, length-append s.before (x ∷ [])) }

head_at : (pre rest : List ℕ) (x : ℕ) → slice_index_or (pre ++ (x ∷ rest)) (length pre) 0 ≡ x
head_at [] rest x = refl
head_at (y ∷ pre) rest x = head_at pre rest x

pub code_at : (M : List ℕ) (r x : ℕ) (xs : List ℕ) → Segment M r (x ∷ xs) → slice_index_or M r 0 ≡ x
code_at M r x xs s = ap (λ (m : List ℕ). slice_index_or m r 0) s.is ∙ ap (λ (k : ℕ). slice_index_or (s.before ++ (x ∷ (xs ++ s.after))) k 0) (sym s.place) ∙ head_at s.before (xs ++ s.after) x

pub register_below : (M : List ℕ) (r x : ℕ) (xs : List ℕ) → Segment M r (x ∷ xs) → r < length M
register_below M r x xs s = omega (arith, ap length s.is, s.place, length-append s.before (x ∷ (xs ++ s.after)))

-- each automaton's code is within its codes, and it is on exactly where its code says so
abbrev pub Fit : List ℕ → List Automaton → List ℕ → Type 0
Fit M [] [] = Unit {0}
Fit M (a ∷ more) (k ∷ codes) = (k ≤ code_count a.states) × ((0 < k) ↔ (IsOn M a.parent)) × Fit M more codes
Fit M _ _ = ⊥

fit_append : (M : List ℕ) (xs ys : List Automaton) (a b : List ℕ) → Fit M xs a → Fit M ys b → Fit M (xs ++ ys) (a ++ b)
fit_append M [] ys [] b f g = g
fit_append M [] ys (k ∷ a) b f g = absurd f
fit_append M (x ∷ xs) ys [] b f g = absurd f
fit_append M (x ∷ xs) ys (k ∷ a) b f g = (f.0, f.1, fit_append M xs ys a b f.2 g)

within_codes : (ss : States) (q e : ℕ) (b : Inner) → IsOfState ss q e b → first_code ss q + e ≤ code_count ss
within_codes no_states q e b h = absurd h
within_codes (state s p ss) zero e b h = omega (arith, below_counts s.timeout e h.0)
within_codes (state s p ss) (suc q) e b h = omega (arith, within_codes ss q e b h)

-- what is off
mutual
  off_fits : (p : Process) (M : List ℕ) (r : ℕ) (up : Option Parent) (by : ℕ → Bool) → ¬ (IsOn M up) → Segment M r (replicate (register_count p) 0) → Fit M (automata_from r up by p) (replicate (register_count p) 0)
  off_fits (automaton ss q) M r up by n s =
      (omega arith, ((λ h. absurd (omega arith)), (λ h. absurd (n h))), states_off ss M (suc r) r 1 by (λ lo hi l h. omega (arith, code_at M r 0 (replicate (registers_in ss) 0) s, h.1)) (segment_tail M r 0 (replicate (registers_in ss) 0) s))
  off_fits (parallel ps) M r up by n s = parts_off ps M r up by n s
  off_fits (local list p) M r up by n s = off_fits p M r up by n s
  off_fits (freeze a p) M r up by n s = off_fits p M r up (λ k. nat_eq a k || by k) n s

  parts_off : (ps : Processes) (M : List ℕ) (r : ℕ) (up : Option Parent) (by : ℕ → Bool) → ¬ (IsOn M up) → Segment M r (replicate (registers_of ps) 0) → Fit M (automata_of_parts r up by ps) (replicate (registers_of ps) 0)
  parts_off no_processes M r up by n s = tt
  parts_off (process p ps) M r up by n s =
      let t = subst (Segment M r) (replicate-add (register_count p) (registers_of ps)) s in
      let right = subst (λ k. Segment M (r + k) (replicate (registers_of ps) 0)) (length-zeros (register_count p)) (segment_right M r (replicate (register_count p) 0) (replicate (registers_of ps) 0) t) in
      subst (Fit M (automata_from r up by p ++ automata_of_parts (r + register_count p) up by ps)) (sym (replicate-add (register_count p) (registers_of ps)))
      (fit_append M (automata_from r up by p) (automata_of_parts (r + register_count p) up by ps) (replicate (register_count p) 0) (replicate (registers_of ps) 0)
      (off_fits p M r up by n (segment_left M r (replicate (register_count p) 0) (replicate (registers_of ps) 0) t))
      (parts_off ps M (r + register_count p) up by n right))

  -- the bodies of states whose codes the register doesn't hold
  states_off : (ss : States) (M : List ℕ) (r own code : ℕ) (by : ℕ → Bool) → ((lo hi : ℕ) → code ≤ lo → IsOn M (Some (record { register = own; first = lo; last = hi })) → ⊥) → Segment M r (replicate (registers_in ss) 0) → Fit M (automata_in r own code by ss) (replicate (registers_in ss) 0)
  states_off no_states M r own code by n s = tt
  states_off (state x p ss) M r own code by n s =
      let t = subst (Segment M r) (replicate-add (registers_within p) (registers_in ss)) s in
      let up : Parent = record { register = own; first = code; last = code + counts_of x.timeout - 1 } in
      let right = subst (λ k. Segment M (r + k) (replicate (registers_in ss) 0)) (length-zeros (registers_within p)) (segment_right M r (replicate (registers_within p) 0) (replicate (registers_in ss) 0) t) in
      subst (Fit M (automata_within r up by p ++ automata_in (r + registers_within p) own (code + counts_of x.timeout) by ss)) (sym (replicate-add (registers_within p) (registers_in ss)))
      (fit_append M (automata_within r up by p) (automata_in (r + registers_within p) own (code + counts_of x.timeout) by ss) (replicate (registers_within p) 0) (replicate (registers_in ss) 0)
      (body_off p M r up by (n code (code + counts_of x.timeout - 1) (omega arith)) (segment_left M r (replicate (registers_within p) 0) (replicate (registers_in ss) 0) t))
      (states_off ss M (r + registers_within p) own (code + counts_of x.timeout) by (λ lo hi l h. n lo hi (omega arith) h) right))

  body_off : (b : Body) (M : List ℕ) (r : ℕ) (up : Parent) (by : ℕ → Bool) → ¬ (IsOn M (Some up)) → Segment M r (replicate (registers_within b) 0) → Fit M (automata_within r up by b) (replicate (registers_within b) 0)
  body_off no_body M r up by n s = tt
  body_off (body p) M r up by n s = off_fits p M r (Some up) by n s

-- what is on
mutual
  on_fits : (p : Process) (c : Configuration) (M : List ℕ) (r : ℕ) (up : Option Parent) (by : ℕ → Bool) → IsConfiguration p c → IsOn M up → Segment M r (code_of p c) → Fit M (automata_from r up by p) (code_of p c)
  on_fits (automaton ss q0) (at q e b) M r up by h on s = (
    within_codes ss q e b h,
    ((λ x. on), (λ x. omega (arith, first_code-positive ss q))),
    states_on ss q e b M (suc r) r 1 by h (omega arith) (omega (arith, code_at M r (first_code ss q + e) (codes_in ss q b) s)) (register_below M r (first_code ss q + e) (codes_in ss q b) s) (segment_tail M r (first_code ss q + e) (codes_in ss q b) s),
  )
  on_fits (automaton ss q0) (beside cs) M r up by h on s = absurd h
  on_fits (parallel ps) (at q e b) M r up by h on s = absurd h
  on_fits (parallel ps) (beside cs) M r up by h on s = parts_on ps cs M r up by h on s
  on_fits (local list p) c M r up by h on s = on_fits p c M r up by h on s
  on_fits (freeze a p) c M r up by h on s = on_fits p c M r up (λ k. nat_eq a k || by k) h on s

  parts_on : (ps : Processes) (cs : Configurations) (M : List ℕ) (r : ℕ) (up : Option Parent) (by : ℕ → Bool) → AreOfParts ps cs → IsOn M up → Segment M r (codes_of ps cs) → Fit M (automata_of_parts r up by ps) (codes_of ps cs)
  parts_on no_processes no_configurations M r up by h on s = tt
  parts_on no_processes (configuration c cs) M r up by h on s = absurd h
  parts_on (process p ps) no_configurations M r up by h on s = absurd h
  parts_on (process p ps) (configuration c cs) M r up by h on s =
      let right = subst (λ k. Segment M (r + k) (codes_of ps cs)) (length-code_of p c h.0) (segment_right M r (code_of p c) (codes_of ps cs) s) in
      fit_append M (automata_from r up by p) (automata_of_parts (r + register_count p) up by ps) (code_of p c) (codes_of ps cs)
      (on_fits p c M r up by h.0 on (segment_left M r (code_of p c) (codes_of ps cs) s))
      (parts_on ps cs M (r + register_count p) up by h.1 on right)

  -- the states from the one with this first code on, of which state q is current
  states_on : (ss : States) (q e : ℕ) (b : Inner) (M : List ℕ) (r own code : ℕ) (by : ℕ → Bool) → IsOfState ss q e b → 1 ≤ code → slice_index_or M own 0 + 1 ≡ code + first_code ss q + e → own < length M → Segment M r (codes_in ss q b) → Fit M (automata_in r own code by ss) (codes_in ss q b)
  states_on no_states q e b M r own code by h least here below s = absurd h
  states_on (state x p ss) zero e b M r own code by h least here below s =
      let up : Parent = record { register = own; first = code; last = code + counts_of x.timeout - 1 } in
      let right = subst (λ k. Segment M (r + k) (replicate (registers_in ss) 0)) (length-codes_within p b h.1) (segment_right M r (codes_within p b) (replicate (registers_in ss) 0) s) in
      fit_append M (automata_within r up by p) (automata_in (r + registers_within p) own (code + counts_of x.timeout) by ss) (codes_within p b) (replicate (registers_in ss) 0)
      (body_on p b M r up by h.1 (below, omega arith, omega (arith, below_counts x.timeout e h.0)) (segment_left M r (codes_within p b) (replicate (registers_in ss) 0) s))
      (states_off ss M (r + registers_within p) own (code + counts_of x.timeout) by (λ lo hi l y. omega (arith, y.1, below_counts x.timeout e h.0)) right)
  states_on (state x p ss) (suc q) e b M r own code by h least here below s =
      let up : Parent = record { register = own; first = code; last = code + counts_of x.timeout - 1 } in
      let right = subst (λ k. Segment M (r + k) (codes_in ss q b)) (length-zeros (registers_within p)) (segment_right M r (replicate (registers_within p) 0) (codes_in ss q b) s) in
      fit_append M (automata_within r up by p) (automata_in (r + registers_within p) own (code + counts_of x.timeout) by ss) (replicate (registers_within p) 0) (codes_in ss q b)
      (body_off p M r up by (λ y. omega (arith, y.2, first_code-positive ss q)) (segment_left M r (replicate (registers_within p) 0) (codes_in ss q b) s))
      (states_on ss q e b M (r + registers_within p) own (code + counts_of x.timeout) by h (omega arith) (omega arith) below right)

  body_on : (p : Body) (b : Inner) (M : List ℕ) (r : ℕ) (up : Parent) (by : ℕ → Bool) → IsOfBody p b → IsOn M (Some up) → Segment M r (codes_within p b) → Fit M (automata_within r up by p) (codes_within p b)
  body_on no_body no_inner M r up by h on s = tt
  body_on no_body (inner c) M r up by h on s = absurd h
  body_on (body p) no_inner M r up by h on s = absurd h
  body_on (body p) (inner c) M r up by h on s = on_fits p c M r (Some up) by h on s

fit_sized : (M : List ℕ) (xs : List Automaton) (codes : List ℕ) → Fit M xs codes → length codes ≡ length (map shape_of xs)
fit_sized M [] [] f = refl
fit_sized M [] (k ∷ codes) f = absurd f
fit_sized M (x ∷ xs) [] f = absurd f
fit_sized M (x ∷ xs) (k ∷ codes) f = ap suc (fit_sized M xs codes f.2)

fit_at : (M : List ℕ) (xs : List Automaton) (codes : List ℕ) → Fit M xs codes → (k : ℕ) (s : RegisterShape) → slice_get (map shape_of xs) k ≡ Some s → (slice_index_or codes k 0 ≤ s.top) × ((0 < slice_index_or codes k 0) ↔ (IsOn M s.parent))
fit_at M [] [] f k s g = cc
fit_at M [] (c ∷ codes) f k s g = absurd f
fit_at M (x ∷ xs) [] f k s g = absurd f
fit_at M (x ∷ xs) (c ∷ codes) f zero s g =
    let e : shape_of x ≡ s = cc in
    subst (λ (z : RegisterShape). (c ≤ z.top) × ((0 < c) ↔ (IsOn M z.parent))) e (f.0, f.1)
fit_at M (x ∷ xs) (c ∷ codes) f (suc k) s g = fit_at M xs codes f.2 k s g

-- a structural memory fits the layout
pub structural_fits : (p : Process) (M : List ℕ) → IsStructural p M → FitsLayout (layout_of p) M
structural_fits p M h =
    let s : Segment M 0 (code_of p h.configuration) = record { before = []; after = []; is = sym h.code ∙ simp append-nil; place = refl } in
    let f : Fit M (automata_of p) M = subst (Fit M (automata_of p)) h.code (on_fits p h.configuration M 0 None (λ k. false) h.is tt s) in
    record {
      sized = fit_sized M (automata_of p) M f;
      within = λ k x g. (fit_at M (automata_of p) M f k x g).0;
      on = λ k x g. (fit_at M (automata_of p) M f k x g).1;
    }
