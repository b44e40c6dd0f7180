-- What is read from a memory is a configuration with this code, and each configuration is read from its code.
use Rattle.std.proofs.Common.{◌≡◌, ℕ, zero, suc, ◌+◌, ◌-◌, ◌<◌, ◌≤◌, List, [], ◌∷◌, ◌++◌, Option, Some, None, true, false, nat_lt, refl, sym, ap, subst, ◌∙◌, ◌⊎◌, inl, inr, replicate, append_assoc, append-nil, length, arith}
use Rattle.std.specs.Prelude.{MatchOption, option_map}
use Rattle.std.proofs.lemmas.Bool.Decides.{nat_tests}
use Rattle.argos_core.specs.Automata.{counts_of, first_code, registers_in, registers_within}
use Rattle.argos_core.specs.Codes.{code_of, codes_of, codes_in, codes_within, IsStructural}
use Rattle.argos_core.specs.Configurations.{IsElapsed, IsConfiguration, AreOfParts, IsOfState, IsOfBody}
use Rattle.argos_core.specs.Process.{Process, automaton, parallel, local, freeze, Processes, no_processes, process, States, no_states, state, Body, no_body, body, Configuration, at, beside, Inner, no_inner, inner, Configurations, no_configurations, configuration}
use Rattle.argos_core.specs.inner.Reading.{Read, after, skipped, Place, shifted, place_behind, read, read_parts, read_in, read_within, with_rest}
use Rattle.argos_core.specs.Views.{configuration_of}
use Rattle.argos_core.specs.declared.prog.Config.{Config}
use Rattle.argos_core.proofs.CodesDiffer.{below_counts, elapsed_below, first_code-positive}

-- zeros
pub skipped-zeros : (n : ℕ) (rest : List ℕ) → skipped n (replicate n 0 ++ rest) ≡ Some rest
skipped-zeros zero rest = refl
skipped-zeros (suc n) rest = skipped-zeros n rest

pub skipped-is : (n : ℕ) (memory rest : List ℕ) → skipped n memory ≡ Some rest → memory ≡ replicate n 0 ++ rest
skipped-is zero memory rest h = cc
skipped-is (suc n) [] rest h = cc
skipped-is (suc n) (zero ∷ memory) rest h = ap (λ (l : List ℕ). 0 ∷ l) (skipped-is n memory rest h)
skipped-is (suc n) (suc k ∷ memory) rest h = cc

-- what a value was made from
pub record From {A B : Type 0} (x : Option A) (f : A → Option B) (y : B) : Type 0 where
  pub value : A
  pub is : x ≡ Some value
  pub made : f value ≡ Some y

pub after-from : {A B : Type 0} (x : Option A) (f : A → Option B) (y : B) → after x f ≡ Some y → From x f y
unfolding after
after-from None f y h = cc
after-from (Some x) f y h = record { value = x; is = refl; made = h }

-- the state and its elapsed count have the code
less_or_not : (a b : ℕ) → ((nat_lt a b ≡ true) × (a < b)) ⊎ ((nat_lt a b ≡ false) × (b ≤ a))
less_or_not a b = grind (arith, nat_tests)

shifted-from : (x : Option Place) (z : Place) → shifted 1 x ≡ Some z → (y : Place) × (x ≡ Some y) × (z.number ≡ suc y.number) × (z.elapsed ≡ y.elapsed)
shifted-from None z h = cc
shifted-from (Some y) z h =
    let e : record { number = 1 + y.number; elapsed = y.elapsed } ≡ z = cc in
    (y, refl, ap (λ (x : Place). x.number) (sym e) ∙ omega arith, ap (λ (x : Place). x.elapsed) (sym e))

pub place_behind-code : (ss : States) (before : ℕ) (z : Place) → place_behind ss before ≡ Some z → first_code ss z.number + z.elapsed ≡ suc before
place_behind-code no_states before z h = cc
place_behind-code (state s p ss) before z h = elim (less_or_not before (counts_of s.timeout)) [
  | inl k ↦
      let e : record { number = 0; elapsed = before } ≡ z = cc (rw k.0 at h) in
      subst (λ (y : Place). first_code (state s p ss) y.number + y.elapsed ≡ suc before) e (omega arith)
  | inr k ↦
      let y = shifted-from (place_behind ss (before - counts_of s.timeout)) z (rw k.0 at h) in
      let r = place_behind-code ss (before - counts_of s.timeout) y.0 y.1 in
      subst (λ (q : ℕ). first_code (state s p ss) q + z.elapsed ≡ suc before) (sym y.2) (omega (arith, r, y.3, k.1))
]

-- state q may have stood this long
abbrev IsElapsedOf : States → ℕ → ℕ → Type 0
IsElapsedOf no_states q e = ⊥
IsElapsedOf (state s p ss) zero e = IsElapsed s.timeout e
IsElapsedOf (state s p ss) (suc q) e = IsElapsedOf ss q e

place_behind-elapsed : (ss : States) (before : ℕ) (z : Place) → place_behind ss before ≡ Some z → IsElapsedOf ss z.number z.elapsed
place_behind-elapsed no_states before z h = cc
place_behind-elapsed (state s p ss) before z h = elim (less_or_not before (counts_of s.timeout)) [
  | inl k ↦
      let e : record { number = 0; elapsed = before } ≡ z = cc (rw k.0 at h) in
      subst (λ (y : Place). IsElapsedOf (state s p ss) y.number y.elapsed) e (elapsed_below s.timeout before k.1)
  | inr k ↦
      let y = shifted-from (place_behind ss (before - counts_of s.timeout)) z (rw k.0 at h) in
      let r = place_behind-elapsed ss (before - counts_of s.timeout) y.0 y.1 in
      subst (λ (q : ℕ). IsElapsedOf (state s p ss) q z.elapsed) (sym y.2) (subst (λ (e : ℕ). IsElapsedOf ss y.0.number e) (sym y.3) r)
]

-- a configuration that is read is one, and its code stands at the front
pub record Front {A : Type 0} (Is : A → Type 0) (code : A → List ℕ) (memory : List ℕ) (r : Read A) : Type 0 where
  pub is : Is r.value
  pub front : memory ≡ code r.value ++ r.rest

mutual
  pub read-front : (p : Process) (memory : List ℕ) (r : Read Configuration) → read p memory ≡ Some r → Front (IsConfiguration p) (code_of p) memory r
  read-front (automaton ss q0) [] r h = cc
  read-front (automaton ss q0) (zero ∷ memory) r h = let x = after-from None (λ (z : Place). after (read_in ss z.number memory) (λ b. Some (record { value = at z.number z.elapsed b.value; rest = b.rest }))) r h in cc x.is
  read-front (automaton ss q0) (suc k ∷ memory) r h =
      let x = after-from (place_behind ss k) (λ z. after (read_in ss z.number memory) (λ b. Some (record { value = at z.number z.elapsed b.value; rest = b.rest }))) r h in
      let y = after-from (read_in ss x.value.number memory) (λ b. Some (record { value = at x.value.number x.value.elapsed b.value; rest = b.rest })) r x.made in
      let b = y.value in
      let e : record { value = at x.value.number x.value.elapsed b.value; rest = b.rest } ≡ r = cc y.made in
      let inside = read_in-front ss x.value.number x.value.elapsed memory b (place_behind-elapsed ss k x.value x.is) y.is in
      let own = place_behind-code ss k x.value x.is in
      let here : Front (IsConfiguration (automaton ss q0)) (code_of (automaton ss q0)) (suc k ∷ memory) (record { value = at x.value.number x.value.elapsed b.value; rest = b.rest }) = record { is = inside.is; front = ap (λ (n : ℕ). n ∷ memory) (sym own) ∙ ap (λ (l : List ℕ). (first_code ss x.value.number + x.value.elapsed) ∷ l) inside.front } in
      subst (Front (IsConfiguration (automaton ss q0)) (code_of (automaton ss q0)) (suc k ∷ memory)) e here
  read-front (parallel ps) memory r h =
      let x = after-from (read_parts ps memory) (λ cs. Some (record { value = beside cs.value; rest = cs.rest })) r h in
      let y = read_parts-front ps memory x.value x.is in
      let e : record { value = beside x.value.value; rest = x.value.rest } ≡ r = cc x.made in
      let here : Front (IsConfiguration (parallel ps)) (code_of (parallel ps)) memory (record { value = beside x.value.value; rest = x.value.rest }) = record { is = y.is; front = y.front } in
      subst (Front (IsConfiguration (parallel ps)) (code_of (parallel ps)) memory) e here
  read-front (local list p) memory r h = let y = read-front p memory r h in record { is = y.is; front = y.front }
  read-front (freeze s p) memory r h = let y = read-front p memory r h in record { is = y.is; front = y.front }

  read_parts-front : (ps : Processes) (memory : List ℕ) (r : Read Configurations) → read_parts ps memory ≡ Some r → Front (AreOfParts ps) (codes_of ps) memory r
  read_parts-front no_processes memory r h =
      let e : record { value = no_configurations; rest = memory } ≡ r = cc in
      let here : Front (AreOfParts no_processes) (codes_of no_processes) memory (record { value = no_configurations; rest = memory }) = record { is = tt; front = refl } in
      subst (Front (AreOfParts no_processes) (codes_of no_processes) memory) e here
  read_parts-front (process p ps) memory r h =
      let x = after-from (read p memory) (λ c. after (read_parts ps c.rest) (λ cs. Some (record { value = configuration c.value cs.value; rest = cs.rest }))) r h in
      let y = after-from (read_parts ps x.value.rest) (λ cs. Some (record { value = configuration x.value.value cs.value; rest = cs.rest })) r x.made in
      let c = read-front p memory x.value x.is in
      let cs = read_parts-front ps x.value.rest y.value y.is in
      let e : record { value = configuration x.value.value y.value.value; rest = y.value.rest } ≡ r = cc y.made in
      let here : Front (AreOfParts (process p ps)) (codes_of (process p ps)) memory (record { value = configuration x.value.value y.value.value; rest = y.value.rest }) = record { is = (c.is, cs.is); front = c.front ∙ ap (λ (l : List ℕ). code_of p x.value.value ++ l) cs.front ∙ sym (append_assoc (code_of p x.value.value) (codes_of ps y.value.value) y.value.rest) } in
      subst (Front (AreOfParts (process p ps)) (codes_of (process p ps)) memory) e here

  read_in-front : (ss : States) (q e : ℕ) (memory : List ℕ) (r : Read Inner) → IsElapsedOf ss q e → read_in ss q memory ≡ Some r → Front (IsOfState ss q e) (codes_in ss q) memory r
  read_in-front no_states q e memory r k h = cc
  read_in-front (state s p ss) zero e memory r k h =
      let x = after-from (read_within p memory) (λ b. after (skipped (registers_in ss) b.rest) (λ rest. Some (record { value = b.value; rest = rest }))) r h in
      let y = after-from (skipped (registers_in ss) x.value.rest) (λ rest. Some (record { value = x.value.value; rest = rest })) r x.made in
      let b = read_within-front p memory x.value x.is in
      let zeros = skipped-is (registers_in ss) x.value.rest y.value y.is in
      let i : record { value = x.value.value; rest = y.value } ≡ r = cc y.made in
      let here : Front (IsOfState (state s p ss) zero e) (codes_in (state s p ss) zero) memory (record { value = x.value.value; rest = y.value }) = record { is = (k, b.is); front = b.front ∙ ap (λ (l : List ℕ). codes_within p x.value.value ++ l) zeros ∙ sym (append_assoc (codes_within p x.value.value) (replicate (registers_in ss) 0) y.value) } in
      subst (Front (IsOfState (state s p ss) zero e) (codes_in (state s p ss) zero) memory) i here
  read_in-front (state s p ss) (suc q) e memory r k h =
      let x = after-from (skipped (registers_within p) memory) (λ rest. read_in ss q rest) r h in
      let y = read_in-front ss q e x.value r k x.made in
      record { is = y.is; front = skipped-is (registers_within p) memory x.value x.is ∙ ap (λ (l : List ℕ). replicate (registers_within p) 0 ++ l) y.front ∙ sym (append_assoc (replicate (registers_within p) 0) (codes_in ss q r.value) r.rest) }

  read_within-front : (p : Body) (memory : List ℕ) (r : Read Inner) → read_within p memory ≡ Some r → Front (IsOfBody p) (codes_within p) memory r
  read_within-front no_body memory r h =
      let e : record { value = no_inner; rest = memory } ≡ r = cc in
      let here : Front (IsOfBody no_body) (codes_within no_body) memory (record { value = no_inner; rest = memory }) = record { is = tt; front = refl } in
      subst (Front (IsOfBody no_body) (codes_within no_body) memory) e here
  read_within-front (body p) memory r h =
      let x = after-from (read p memory) (λ c. Some (record { value = inner c.value; rest = c.rest })) r h in
      let y = read-front p memory x.value x.is in
      let e : record { value = inner x.value.value; rest = x.value.rest } ≡ r = cc x.made in
      let here : Front (IsOfBody (body p)) (codes_within (body p)) memory (record { value = inner x.value.value; rest = x.value.rest }) = record { is = y.is; front = y.front } in
      subst (Front (IsOfBody (body p)) (codes_within (body p)) memory) e here

-- a state's code leads back to it
place_behind-at : (ss : States) (q e : ℕ) (b : Inner) (k : ℕ) → IsOfState ss q e b → first_code ss q + e ≡ suc k → place_behind ss k ≡ Some (record { number = q; elapsed = e })
place_behind-at no_states q e b k h own = absurd h
place_behind-at (state s p ss) zero e b k h own =
    let same : k ≡ e = omega arith in
    elim (less_or_not k (counts_of s.timeout)) [
      | inl y ↦ rw y.0 (ap (λ (n : ℕ). Some (record { number = 0; elapsed = n })) same)
      | inr y ↦ absurd (omega (arith, below_counts s.timeout e h.0, y.1))
    ]
place_behind-at (state s p ss) (suc q) e b k h own = elim (less_or_not k (counts_of s.timeout)) [
  | inl y ↦ absurd (omega (arith, first_code-positive ss q, y.1))
  | inr y ↦
      let r = place_behind-at ss q e b (k - counts_of s.timeout) h (omega (arith, y.1)) in
      let n : 1 + q ≡ suc q = omega arith in
      rw y.0 (ap (shifted 1) r ∙ ap (λ (m : ℕ). Some (record { number = m; elapsed = e })) n)
]

-- each configuration is read from its code
mutual
  unfolding after

  pub read-code : (p : Process) (c : Configuration) (rest : List ℕ) → IsConfiguration p c → read p (code_of p c ++ rest) ≡ Some (record { value = c; rest = rest })
  read-code (automaton ss q0) (at q e b) rest h =
      let k = first_code ss q + e - 1 in
      let own : first_code ss q + e ≡ suc k = omega (arith, first_code-positive ss q) in
      let memory = codes_in ss q b ++ rest in
      ap (λ (n : ℕ). read (automaton ss q0) (n ∷ memory)) own
      ∙ ap (λ (x : Option Place). after x (λ z. after (read_in ss z.number memory) (λ b. Some (record { value = at z.number z.elapsed b.value; rest = b.rest })))) (place_behind-at ss q e b k h own)
      ∙ ap (λ (x : Option (Read Inner)). after x (λ b. Some (record { value = at q e b.value; rest = b.rest }))) (read_in-code ss q e b rest h)
  read-code (automaton ss q0) (beside cs) rest h = absurd h
  read-code (parallel ps) (at q e b) rest h = absurd h
  read-code (parallel ps) (beside cs) rest h = ap (λ (x : Option (Read Configurations)). after x (λ cs. Some (record { value = beside cs.value; rest = cs.rest }))) (read_parts-code ps cs rest h)
  read-code (local list p) c rest h = read-code p c rest h
  read-code (freeze s p) c rest h = read-code p c rest h

  read_parts-code : (ps : Processes) (cs : Configurations) (rest : List ℕ) → AreOfParts ps cs → read_parts ps (codes_of ps cs ++ rest) ≡ Some (record { value = cs; rest = rest })
  read_parts-code no_processes no_configurations rest h = refl
  read_parts-code no_processes (configuration c cs) rest h = absurd h
  read_parts-code (process p ps) no_configurations rest h = absurd h
  read_parts-code (process p ps) (configuration c cs) rest h =
      ap (read_parts (process p ps)) (append_assoc (code_of p c) (codes_of ps cs) rest)
      ∙ ap (λ (x : Option (Read Configuration)). after x (λ c. after (read_parts ps c.rest) (λ cs. Some (record { value = configuration c.value cs.value; rest = cs.rest })))) (read-code p c (codes_of ps cs ++ rest) h.0)
      ∙ ap (λ (x : Option (Read Configurations)). after x (λ cs. Some (record { value = configuration c cs.value; rest = cs.rest }))) (read_parts-code ps cs rest h.1)

  read_in-code : (ss : States) (q e : ℕ) (b : Inner) (rest : List ℕ) → IsOfState ss q e b → read_in ss q (codes_in ss q b ++ rest) ≡ Some (record { value = b; rest = rest })
  read_in-code no_states q e b rest h = absurd h
  read_in-code (state s p ss) zero e b rest h =
      ap (read_in (state s p ss) zero) (append_assoc (codes_within p b) (replicate (registers_in ss) 0) rest)
      ∙ ap (λ (x : Option (Read Inner)). after x (λ b. after (skipped (registers_in ss) b.rest) (λ rest. Some (record { value = b.value; rest = rest })))) (read_within-code p b (replicate (registers_in ss) 0 ++ rest) h.1)
      ∙ ap (λ (x : Option (List ℕ)). after x (λ rest. Some (record { value = b; rest = rest }))) (skipped-zeros (registers_in ss) rest)
  read_in-code (state s p ss) (suc q) e b rest h =
      ap (read_in (state s p ss) (suc q)) (append_assoc (replicate (registers_within p) 0) (codes_in ss q b) rest)
      ∙ ap (λ (x : Option (List ℕ)). after x (λ rest. read_in ss q rest)) (skipped-zeros (registers_within p) (codes_in ss q b ++ rest))
      ∙ read_in-code ss q e b rest h

  read_within-code : (p : Body) (b : Inner) (rest : List ℕ) → IsOfBody p b → read_within p (codes_within p b ++ rest) ≡ Some (record { value = b; rest = rest })
  read_within-code no_body no_inner rest h = refl
  read_within-code no_body (inner c) rest h = absurd h
  read_within-code (body p) no_inner rest h = absurd h
  read_within-code (body p) (inner c) rest h = ap (λ (x : Option (Read Configuration)). after x (λ c. Some (record { value = inner c.value; rest = c.rest }))) (read-code p c rest h)

-- a memory is structural where it is read to its end
structural-read : (p : Process) (memory : List ℕ) (s : IsStructural p memory) → read p memory ≡ Some (record { value = s.configuration; rest = [] })
structural-read p memory s = ap (read p) (sym s.code ∙ sym (append-nil (code_of p s.configuration))) ∙ read-code p s.configuration [] s.is

pub decoded : (p : Process) (memory rest : List ℕ) (found : Option Config) → read p memory ≡ with_rest rest (option_map configuration_of found) → rest ≡ []
    → MatchOption found (IsStructural p memory → ⊥) (λ c. IsConfiguration p (configuration_of c) × (code_of p (configuration_of c) ≡ memory))
decoded p memory rest None h end = λ s. nothing_is (structural-read p memory s) h
  where
    nothing_is : {A : Type 0} {x : Option A} {y : A} → x ≡ Some y → x ≡ None → ⊥
    nothing_is a b = cc
decoded p memory rest (Some c) h end =
    let y = read-front p memory (record { value = configuration_of c; rest = rest }) h in
    (y.is, sym (append-nil (code_of p (configuration_of c))) ∙ ap (λ (l : List ℕ). code_of p (configuration_of c) ++ l) (sym end) ∙ sym y.front)

pub not_decoded : (p : Process) (memory rest : List ℕ) (found : Option Config) → read p memory ≡ with_rest rest (option_map configuration_of found) → ¬ (rest ≡ []) → IsStructural p memory → ⊥
not_decoded p memory rest None h more s = let r = structural-read p memory s in cc
not_decoded p memory rest (Some c) h more s =
    let r = structural-read p memory s in
    let e : record { value = s.configuration; rest = [] } ≡ record { value = configuration_of c; rest = rest } = cc in
    more (sym (ap (λ (x : Read Configuration). x.rest) e))

pub empty : (l : List ℕ) → length l ≡ 0 → l ≡ []
empty [] n = refl
empty (k ∷ l) n = absurd (omega arith)
