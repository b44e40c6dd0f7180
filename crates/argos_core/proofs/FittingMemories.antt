-- Memories that fit the layout are structural.
use Rattle.std.proofs.Common.{◌≡◌, ℕ, zero, suc, ◌+◌, ◌-◌, ◌<◌, ◌≤◌, List, [], ◌∷◌, ◌++◌, map, Option, Some, None, refl, sym, ap, subst, ◌∙◌, ◌⊎◌, inl, inr, arith, length, replicate, append-nil, slice_get, Bool, ◌||◌, nat_eq, false}
use Rattle.std.specs.Prelude.{◌↔◌, slice_index_or}
use Rattle.argos_core.specs.Automata.{Automaton, Parent, counts_of, code_count, first_code, register_count, registers_of, registers_in, registers_within, automata_from, automata_of_parts, automata_in, automata_within, automata_of}
use Rattle.argos_core.specs.Codes.{code_of, codes_of, codes_in, codes_within, IsStructural}
use Rattle.argos_core.specs.Configurations.{IsConfiguration, AreOfParts, IsOfState, IsOfBody}
use Rattle.argos_core.specs.Layouts.{RegisterShape, shape_of, layout_of, IsOn, FitsLayout}
use Rattle.argos_core.specs.Process.{Process, automaton, parallel, local, freeze, Processes, no_processes, process, States, no_states, state, Body, no_body, body, Configuration, at, beside, Inner, no_inner, inner, Configurations, no_configurations, configuration}
use Rattle.argos_core.proofs.CodesDiffer.{length-code_of, length-codes_within, elapsed_below}
use Rattle.argos_core.proofs.Zeros.{length-zeros, replicate-add}
use Rattle.argos_core.proofs.StructuralFits.{Segment, segment_left, segment_right, segment_tail, code_at, register_below, Fit}

-- a fitting list of codes for two lists of automata is cut in two
pub record Cut (M : List ℕ) (xs ys : List Automaton) (codes : List ℕ) : Type 0 where
  pub first : List ℕ
  pub second : List ℕ
  pub is : codes ≡ first ++ second
  pub first_fits : Fit M xs first
  pub second_fits : Fit M ys second

cut : (M : List ℕ) (xs ys : List Automaton) (codes : List ℕ) → Fit M (xs ++ ys) codes → Cut M xs ys codes
cut M [] ys codes f = record { first = []; second = codes; is = refl; first_fits = tt; second_fits = f }
cut M (x ∷ xs) ys [] f = absurd f
cut M (x ∷ xs) ys (k ∷ codes) f =
    let c = cut M xs ys codes f.2 in
    record { first = k ∷ c.first; second = c.second; is = ap (λ (l : List ℕ). k ∷ l) c.is; first_fits = (f.0, f.1, c.first_fits); second_fits = c.second_fits }

-- what is off holds zeros
mutual
  off_zero : (p : Process) (M : List ℕ) (r : ℕ) (up : Option Parent) (by : ℕ → Bool) (codes : List ℕ) → ¬ (IsOn M up) → Segment M r codes → Fit M (automata_from r up by p) codes → codes ≡ replicate {A = ℕ} (register_count p) 0
  off_zero (automaton ss q) M r up by [] n s f = absurd f
  off_zero (automaton ss q) M r up by (k ∷ codes) n s f =
      let z : k ≡ 0 = zero_of k f.1.0 in
      let rest = states_zero ss M (suc r) r 1 by codes (λ lo hi l h. omega (arith, code_at M r k codes s, z, h.1)) (segment_tail M r k codes s) f.2 in
      ap (λ (x : ℕ). x ∷ codes) z ∙ ap (λ (l : List ℕ). 0 ∷ l) rest
    where
      zero_of : (k : ℕ) → (0 < k → IsOn M up) → k ≡ 0
      zero_of zero h = refl
      zero_of (suc k) h = absurd (n (h (omega arith)))
  off_zero (parallel ps) M r up by codes n s f = parts_zero ps M r up by codes n s f
  off_zero (local list p) M r up by codes n s f = off_zero p M r up by codes n s f
  off_zero (freeze a p) M r up by codes n s f = off_zero p M r up (λ k. nat_eq a k || by k) codes n s f

  parts_zero : (ps : Processes) (M : List ℕ) (r : ℕ) (up : Option Parent) (by : ℕ → Bool) (codes : List ℕ) → ¬ (IsOn M up) → Segment M r codes → Fit M (automata_of_parts r up by ps) codes → codes ≡ replicate {A = ℕ} (registers_of ps) 0
  parts_zero no_processes M r up by [] n s f = refl
  parts_zero no_processes M r up by (k ∷ codes) n s f = absurd f
  parts_zero (process p ps) M r up by codes n s f =
      let c = cut M (automata_from r up by p) (automata_of_parts (r + register_count p) up by ps) codes f in
      let t : Segment M r (c.first ++ c.second) = subst (Segment M r) c.is s in
      let x = off_zero p M r up by c.first n (segment_left M r c.first c.second t) c.first_fits in
      let len : length c.first ≡ register_count p = ap length x ∙ length-zeros (register_count p) in
      let y = parts_zero ps M (r + register_count p) up by c.second n (subst (λ (k : ℕ). Segment M (r + k) c.second) len (segment_right M r c.first c.second t)) c.second_fits in
      c.is ∙ ap (λ (l : List ℕ). l ++ c.second) x ∙ ap (λ (l : List ℕ). replicate {A = ℕ} (register_count p) 0 ++ l) y ∙ sym (replicate-add (register_count p) (registers_of ps))

  states_zero : (ss : States) (M : List ℕ) (r own code : ℕ) (by : ℕ → Bool) (codes : List ℕ) → ((lo hi : ℕ) → code ≤ lo → IsOn M (Some (record { register = own; first = lo; last = hi })) → ⊥) → Segment M r codes → Fit M (automata_in r own code by ss) codes → codes ≡ replicate {A = ℕ} (registers_in ss) 0
  states_zero no_states M r own code by [] n s f = refl
  states_zero no_states M r own code by (k ∷ codes) n s f = absurd f
  states_zero (state x p ss) M r own code by codes n s f =
      let up : Parent = record { register = own; first = code; last = code + counts_of x.timeout - 1 } in
      let c = cut M (automata_within r up by p) (automata_in (r + registers_within p) own (code + counts_of x.timeout) by ss) codes f in
      let t : Segment M r (c.first ++ c.second) = subst (Segment M r) c.is s in
      let a = body_zero p M r up by c.first (n code (code + counts_of x.timeout - 1) (omega arith)) (segment_left M r c.first c.second t) c.first_fits in
      let len : length c.first ≡ registers_within p = ap length a ∙ length-zeros (registers_within p) in
      let b = states_zero ss M (r + registers_within p) own (code + counts_of x.timeout) by c.second (λ lo hi l h. n lo hi (omega arith) h) (subst (λ (k : ℕ). Segment M (r + k) c.second) len (segment_right M r c.first c.second t)) c.second_fits in
      c.is ∙ ap (λ (l : List ℕ). l ++ c.second) a ∙ ap (λ (l : List ℕ). replicate {A = ℕ} (registers_within p) 0 ++ l) b ∙ sym (replicate-add (registers_within p) (registers_in ss))

  body_zero : (b : Body) (M : List ℕ) (r : ℕ) (up : Parent) (by : ℕ → Bool) (codes : List ℕ) → ¬ (IsOn M (Some up)) → Segment M r codes → Fit M (automata_within r up by b) codes → codes ≡ replicate {A = ℕ} (registers_within b) 0
  body_zero no_body M r up by [] n s f = refl
  body_zero no_body M r up by (k ∷ codes) n s f = absurd f
  body_zero (body p) M r up by codes n s f = off_zero p M r (Some up) by codes n s f

at_most : (a b : ℕ) → (a ≤ b) ⊎ (b < a)
at_most a b = grind arith

pub record Found (p : Process) (codes : List ℕ) : Type 0 where
  pub c : Configuration
  pub is : IsConfiguration p c
  pub code : code_of p c ≡ codes

pub record FoundParts (ps : Processes) (codes : List ℕ) : Type 0 where
  pub cs : Configurations
  pub are : AreOfParts ps cs
  pub code : codes_of ps cs ≡ codes

-- state q with elapsed count e has the k-th of these states' codes
pub record FoundState (ss : States) (k : ℕ) (codes : List ℕ) : Type 0 where
  pub q : ℕ
  pub e : ℕ
  pub b : Inner
  pub is : IsOfState ss q e b
  pub own : first_code ss q + e ≡ k
  pub code : codes_in ss q b ≡ codes

pub record FoundBody (p : Body) (codes : List ℕ) : Type 0 where
  pub b : Inner
  pub is : IsOfBody p b
  pub code : codes_within p b ≡ codes

mutual
  find : (p : Process) (M : List ℕ) (r : ℕ) (up : Option Parent) (by : ℕ → Bool) (codes : List ℕ) → IsOn M up → Segment M r codes → Fit M (automata_from r up by p) codes → Found p codes
  find (automaton ss q) M r up by [] on s f = absurd f
  find (automaton ss q) M r up by (k ∷ codes) on s f =
      let x = find_state ss k M (suc r) r 1 by codes (f.1.1 on) f.0 (omega arith) (omega (arith, code_at M r k codes s)) (register_below M r k codes s) (segment_tail M r k codes s) f.2 in
      record { c = at x.q x.e x.b; is = x.is; code = ap (λ (z : ℕ). z ∷ codes_in ss x.q x.b) x.own ∙ ap (λ (l : List ℕ). k ∷ l) x.code }
  find (parallel ps) M r up by codes on s f = let x = find_parts ps M r up by codes on s f in record { c = beside x.cs; is = x.are; code = x.code }
  find (local list p) M r up by codes on s f = let x = find p M r up by codes on s f in record { c = x.c; is = x.is; code = x.code }
  find (freeze a p) M r up by codes on s f = let x = find p M r up (λ k. nat_eq a k || by k) codes on s f in record { c = x.c; is = x.is; code = x.code }

  find_parts : (ps : Processes) (M : List ℕ) (r : ℕ) (up : Option Parent) (by : ℕ → Bool) (codes : List ℕ) → IsOn M up → Segment M r codes → Fit M (automata_of_parts r up by ps) codes → FoundParts ps codes
  find_parts no_processes M r up by [] on s f = record { cs = no_configurations; are = tt; code = refl }
  find_parts no_processes M r up by (k ∷ codes) on s f = absurd f
  find_parts (process p ps) M r up by codes on s f =
      let c = cut M (automata_from r up by p) (automata_of_parts (r + register_count p) up by ps) codes f in
      let t : Segment M r (c.first ++ c.second) = subst (Segment M r) c.is s in
      let x = find p M r up by c.first on (segment_left M r c.first c.second t) c.first_fits in
      let len : length c.first ≡ register_count p = ap length (sym x.code) ∙ length-code_of p x.c x.is in
      let y = find_parts ps M (r + register_count p) up by c.second on (subst (λ (k : ℕ). Segment M (r + k) c.second) len (segment_right M r c.first c.second t)) c.second_fits in
      record { cs = configuration x.c y.cs; are = (x.is, y.are); code = ap (λ (l : List ℕ). l ++ codes_of ps y.cs) x.code ∙ ap (λ (l : List ℕ). c.first ++ l) y.code ∙ sym c.is }

  find_state : (ss : States) (k : ℕ) (M : List ℕ) (r own code : ℕ) (by : ℕ → Bool) (codes : List ℕ) → 0 < k → k ≤ code_count ss → 1 ≤ code → slice_index_or M own 0 + 1 ≡ code + k → own < length M → Segment M r codes → Fit M (automata_in r own code by ss) codes → FoundState ss k codes
  find_state no_states k M r own code by codes some most least here below s f = absurd (omega arith)
  find_state (state x p ss) k M r own code by codes some most least here below s f =
      let up : Parent = record { register = own; first = code; last = code + counts_of x.timeout - 1 } in
      let c = cut M (automata_within r up by p) (automata_in (r + registers_within p) own (code + counts_of x.timeout) by ss) codes f in
      let t : Segment M r (c.first ++ c.second) = subst (Segment M r) c.is s in
      elim (at_most k (counts_of x.timeout)) [
        | inl here_it_is ↦
            let y = find_body p M r up by c.first (below, omega arith, omega arith) (segment_left M r c.first c.second t) c.first_fits in
            let len : length c.first ≡ registers_within p = ap length (sym y.code) ∙ length-codes_within p y.b y.is in
            let z = states_zero ss M (r + registers_within p) own (code + counts_of x.timeout) by c.second (λ lo hi l h. omega (arith, h.1)) (subst (λ (j : ℕ). Segment M (r + j) c.second) len (segment_right M r c.first c.second t)) c.second_fits in
            record {
              q = zero;
              e = k - 1;
              b = y.b;
              is = (elapsed_below x.timeout (k - 1) (omega arith), y.is);
              own = omega arith;
              code = ap (λ (l : List ℕ). l ++ replicate {A = ℕ} (registers_in ss) 0) y.code ∙ ap (λ (l : List ℕ). c.first ++ l) (sym z) ∙ sym c.is;
            }
        | inr later ↦
            let a = body_zero p M r up by c.first (λ h. omega (arith, h.2)) (segment_left M r c.first c.second t) c.first_fits in
            let len : length c.first ≡ registers_within p = ap length a ∙ length-zeros (registers_within p) in
            let y = find_state ss (k - counts_of x.timeout) M (r + registers_within p) own (code + counts_of x.timeout) by c.second (omega arith) (omega arith) (omega arith) (omega arith) below (subst (λ (j : ℕ). Segment M (r + j) c.second) len (segment_right M r c.first c.second t)) c.second_fits in
            record {
              q = suc y.q;
              e = y.e;
              b = y.b;
              is = y.is;
              own = omega (arith, y.own);
              code = ap (λ (l : List ℕ). l ++ codes_in ss y.q y.b) (sym a) ∙ ap (λ (l : List ℕ). c.first ++ l) y.code ∙ sym c.is;
            }
      ]

  find_body : (b : Body) (M : List ℕ) (r : ℕ) (up : Parent) (by : ℕ → Bool) (codes : List ℕ) → IsOn M (Some up) → Segment M r codes → Fit M (automata_within r up by b) codes → FoundBody b codes
  find_body no_body M r up by [] on s f = record { b = no_inner; is = tt; code = refl }
  find_body no_body M r up by (k ∷ codes) on s f = absurd f
  find_body (body p) M r up by codes on s f = let x = find p M r (Some up) by codes on s f in record { b = inner x.c; is = x.is; code = x.code }

fit_of : (M : List ℕ) (xs : List Automaton) (codes : List ℕ) → length codes ≡ length (map shape_of xs) → ((k : ℕ) (s : RegisterShape) → slice_get (map shape_of xs) k ≡ Some s → (slice_index_or codes k 0 ≤ s.top) × ((0 < slice_index_or codes k 0) ↔ (IsOn M s.parent))) → Fit M xs codes
fit_of M [] [] e h = tt
fit_of M [] (k ∷ codes) e h = absurd (omega arith)
fit_of M (x ∷ xs) [] e h = absurd (omega arith)
fit_of M (x ∷ xs) (k ∷ codes) e h = let a = h 0 (shape_of x) refl in (a.0, a.1, fit_of M xs codes (omega arith) (λ j s g. h (suc j) s g))

-- a memory that fits the layout is structural
pub fitting_is_structural : (p : Process) (M : List ℕ) → FitsLayout (layout_of p) M → IsStructural p M
fitting_is_structural p M h =
    let f : Fit M (automata_of p) M = fit_of M (automata_of p) M h.sized (λ k s g. (h.within k s g, h.on k s g)) in
    let s : Segment M 0 M = record { before = []; after = []; is = simp append-nil; place = refl } in
    let x = find p M 0 None (λ k. false) M tt s f in
    record { configuration = x.c; is = x.is; code = x.code }
