-- The registers of a program have digits enough for its memories.
use Rattle.std.proofs.Common.{◌≡◌, ℕ, zero, suc, ◌+◌, ◌-◌, ◌<◌, ◌≤◌, List, [], ◌∷◌, ◌++◌, Option, Some, None, Bool, true, false, nat_le, map, length, slice_get, refl, sym, ap, subst, ◌∙◌, inl, inr, arith}
use Rattle.std.specs.Prelude.{◌^◌, if◌then◌else◌, slice_index_or}
use Rattle.std.proofs.Math.Pow.{pow_mono}
use Rattle.std.proofs.lemmas.Bool.{cases_lt}
use Rattle.std.proofs.lemmas.Bool.Decides.{nat_tests}
use Rattle.argos_core.specs.Automata.{Automaton, Parent, counts_of, code_count, register_count, registers_within, automata_from, automata_of_parts, automata_in, automata_within, automata_of}
use Rattle.argos_core.specs.Layouts.{RegisterShape, shape_of, layout_of, FitsLayout}
use Rattle.argos_core.specs.Modules.{IsShaped, AreShapedParts, AreShapedStates, IsShapedBody}
use Rattle.argos_core.specs.Process.{Process, automaton, parallel, local, freeze, Processes, no_processes, process, States, no_states, state, Body, no_body, body}
use Rattle.argos_core.proofs.StructuralFits.{structural_fits}
use Rattle.eqn_completion.specs.Binary.{FitsIn}
use Rattle.eqn_dd.specs.Structural.{powers_within, digit_count}
use Rattle.bisim_verdict.specs.Laws.{DigitsFit}

counts : (b : Bool) (k : ℕ) → b ≡ true → (if b then 1 else 0) + k ≡ suc k
counts true k h = omega arith
counts false k h = cc

skips : (b : Bool) (k : ℕ) → b ≡ false → (if b then 1 else 0) + k ≡ k
skips true k h = cc
skips false k h = omega arith

-- all powers below the k-th are within what the k-th is within
all_within : (k n : ℕ) → 2 ^ k ≤ n → powers_within k n ≡ k
all_within zero n h = refl
all_within (suc k) n h =
    let t : 2 ^ suc k ≡ 2 ^ k + 2 ^ k = omega arith in
    let here : nat_le (2 ^ k) n ≡ true = grind (arith, nat_tests) in
    let rest : powers_within k n ≡ k = all_within k n (omega arith) in
    counts (nat_le (2 ^ k) n) (powers_within k n) here ∙ ap suc rest

digits_enough : (k n : ℕ) → n < 2 ^ k → n < 2 ^ powers_within k n
digits_enough zero n h = h
digits_enough (suc k) n h = elim (cases_lt n (2 ^ k)) [
  | inl l ↦
      let here : nat_le (2 ^ k) n ≡ false = grind (arith, nat_tests) in
      let all : powers_within (suc k) n ≡ powers_within k n = skips (nat_le (2 ^ k) n) (powers_within k n) here in
      subst (λ (p : ℕ). n < 2 ^ p) (sym all) (digits_enough k n l)
  | inr g ↦
      let here : nat_le (2 ^ k) n ≡ true = grind (arith, nat_tests) in
      let all : powers_within (suc k) n ≡ suc k = counts (nat_le (2 ^ k) n) (powers_within k n) here ∙ ap suc (all_within k n g) in
      subst (λ (p : ℕ). n < 2 ^ p) (sym all) h
]

code_fits : (top a : ℕ) → top ≤ 65535 → a ≤ top → a < 2 ^ digit_count top
code_fits top a h k =
    let enough : top < 2 ^ powers_within 16 top = digits_enough 16 top (omega arith) in
    let more : 2 ^ powers_within 16 top ≤ 2 ^ digit_count top = pow_mono (omega arith) in
    omega arith

-- each of the automata has at most so many codes
abbrev AreCoded : List Automaton → Type 0
AreCoded [] = Unit {0}
AreCoded (a ∷ more) = (code_count a.states ≤ 65535) × AreCoded more

coded-append : (xs ys : List Automaton) → AreCoded xs → AreCoded ys → AreCoded (xs ++ ys)
coded-append [] ys h k = k
coded-append (x ∷ xs) ys h k = (h.0, coded-append xs ys h.1 k)

mutual
  coded : (p : Process) (r : ℕ) (up : Option Parent) (by : ℕ → Bool) → IsShaped p → AreCoded (automata_from r up by p)
  coded (automaton ss q) r up by h = (h.1, coded_in ss (suc r) r 1 by _ h.2)
  coded (parallel ps) r up by h = coded_parts ps r up by h.1
  coded (local list p) r up by h = coded p r up by h
  coded (freeze s p) r up by h = coded p r up _ h

  coded_parts : (ps : Processes) (r : ℕ) (up : Option Parent) (by : ℕ → Bool) → AreShapedParts ps → AreCoded (automata_of_parts r up by ps)
  coded_parts no_processes r up by h = tt
  coded_parts (process p ps) r up by h = coded-append (automata_from r up by p) _ (coded p r up by h.0) (coded_parts ps (r + register_count p) up by h.1)

  coded_in : (ss : States) (r own code : ℕ) (by : ℕ → Bool) (n : ℕ) → AreShapedStates n ss → AreCoded (automata_in r own code by ss)
  coded_in no_states r own code by n h = tt
  coded_in (state s p ss) r own code by n h = coded-append (automata_within r (record { register = own; first = code; last = code + counts_of s.timeout - 1 }) by p) _ (coded_within p r _ by h.2) (coded_in ss (r + registers_within p) own (code + counts_of s.timeout) by n h.3)

  coded_within : (b : Body) (r : ℕ) (up : Parent) (by : ℕ → Bool) → IsShapedBody b → AreCoded (automata_within r up by b)
  coded_within no_body r up by h = tt
  coded_within (body p) r up by h = coded p r (Some up) by h

fits : (list : List Automaton) (memory : List ℕ) → AreCoded list → length memory ≡ length (map shape_of list)
    → ((k : ℕ) (s : RegisterShape) → slice_get (map shape_of list) k ≡ Some s → slice_index_or memory k 0 ≤ s.top)
    → FitsIn (map (λ s. digit_count s.top) (map shape_of list)) memory
fits [] [] c e h = tt
fits [] (m ∷ memory) c e h = absurd (omega arith)
fits (a ∷ rest) [] c e h = absurd (omega arith)
fits (a ∷ rest) (m ∷ memory) c e h = (code_fits (code_count a.states) m c.0 (h 0 (shape_of a) refl), fits rest memory c.1 (omega arith) (λ k s g. h (suc k) s g))

pub digits_fit : DigitsFit
digits_fit P shaped m s =
    let f : FitsLayout (layout_of P.process) m = structural_fits P.process m s in
    fits (automata_of P.process) m (coded P.process 0 None (λ k. false) shaped) f.sized f.within
