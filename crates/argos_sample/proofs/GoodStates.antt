-- The states of a sample: each has one transition, so no two of them overlap.
use Rattle.std.proofs.Common.{◌≡◌, ◌⊎◌, inl, inr, ℕ, zero, suc, ◌+◌, ◌<◌, ◌≤◌, List, [], ◌∷◌, Option, Some, None, Bool, false, length, slice_get, sym, ap, ◌∙◌, arith}
use Rattle.argos_base.specs.SignalSets.{SignalSet}
use Rattle.argos_core.specs.Automata.{Automaton, Parent, rules_of, automata_of_parts}
use Rattle.argos_core.specs.Overlaps.{IsStateAt, IsOverlap}
use Rattle.argos_core.specs.Process.{Transition, Rules, States, no_states, state, no_body}
use Rattle.argos_sample.specs.SampleModule.{heard_signal, emitted_signal, moving, rules_with, row, sample_module}

-- the two states of the i-th of n automata
abbrev pub off : ℕ → Rules
off i = rules_with "Off" (moving (heard_signal i) [] 1)

abbrev pub on : ℕ → ℕ → Rules
on n i = rules_with "On" (moving (heard_signal i) (emitted_signal n i ∷ []) 0)

abbrev both : ℕ → ℕ → States
both n i = state (off i) no_body (state (on n i) no_body no_states)

-- an automaton of the row, which nothing stops
record IsOfRow (n : ℕ) (by : ℕ → Bool) (a : Automaton) : Type 0 where
  number : ℕ
  states_are : a.states ≡ both n number
  stopped_are : a.stopped_by ≡ by

of_row : (n i k r p : ℕ) (up : Option Parent) (by : ℕ → Bool) (a : Automaton)
    → slice_get (automata_of_parts r up by (row n i k)) p ≡ Some a → IsOfRow n by a
of_row n i zero r p up by a at = cc
of_row n i (suc k) r zero up by a at =
    let same : record { states = both n i; initial = 0; parent = up; stopped_by = by } ≡ a = cc in record {
      number = i;
      states_are = ap (λ (x : Automaton). x.states) (sym same);
      stopped_are = ap (λ (x : Automaton). x.stopped_by) (sym same);
    }
of_row n i (suc k) r (suc p) up by a at =
    let more = of_row n (i + 1) k (r + 1) p up by a at in record {
      number = more.number;
      states_are = more.states_are;
      stopped_are = more.stopped_are;
    }

-- a state of the i-th of n automata
pub record IsHalf (n : ℕ) (rules : Rules) (by : ℕ → Bool) : Type 0 where
  pub number : ℕ
  pub which : (rules ≡ off number) ⊎ (rules ≡ on n number)
  pub stopped_are : by ≡ (λ k. false)

half_of : (n i q : ℕ) (rules : Rules) → slice_get (rules_of (both n i)) q ≡ Some rules
    → (rules ≡ off i) ⊎ (rules ≡ on n i)
half_of n i zero rules at = inl (let same : off i ≡ rules = cc in sym same)
half_of n i (suc zero) rules at = inr (let same : on n i ≡ rules = cc in sym same)
half_of n i (suc (suc q)) rules at = cc

half_in : (n q : ℕ) (rules : Rules) (a : Automaton) → IsOfRow n (λ k. false) a
    → slice_get (rules_of a.states) q ≡ Some rules → IsHalf n rules a.stopped_by
half_in n q rules a is at = record {
  number = is.number;
  which = half_of n is.number q rules (ap (λ (ss : States). slice_get (rules_of ss) q) (sym is.states_are) ∙ at);
  stopped_are = is.stopped_are;
}

pub half_at : (n r q : ℕ) (rules : Rules) → 1 ≤ n → (s : IsStateAt (sample_module n) r q rules)
    → IsHalf n rules s.automaton.stopped_by
half_at zero r q rules some s = absurd (omega arith)
half_at (suc zero) r q rules some s =
    half_in 1 q rules s.automaton (of_row 1 0 1 0 r None (λ k. false) s.automaton s.register) s.state
half_at (suc (suc k)) r q rules some s =
    let n = suc (suc k) in
    half_in n q rules s.automaton (of_row n 0 n 0 r None (λ j. false) s.automaton s.register) s.state

-- each state has one transition
one_transition : (n : ℕ) (rules : Rules) (by : ℕ → Bool) → IsHalf n rules by → length rules.transitions ≡ 1
one_transition n rules by h = elim h.which [
  | inl e ↦ ap (λ (s : Rules). length s.transitions) e
  | inr e ↦ ap (λ (s : Rules). length s.transitions) e
]

place_exists : (ts : List Transition) (k : ℕ) (t : Transition) → slice_get ts k ≡ Some t → k < length ts
place_exists [] k t at = cc
place_exists (u ∷ ts) zero t at = omega arith
place_exists (u ∷ ts) (suc k) t at = omega (arith, place_exists ts k t at)

-- so no two of them stand at different places
pub no_two : (n r q x y : ℕ) (rules : Rules) (t : Transition) → 1 ≤ n → IsStateAt (sample_module n) r q rules → x < y
    → slice_get rules.transitions y ≡ Some t → ⊥
no_two n r q x y rules t some s order at =
    let one = one_transition n rules s.automaton.stopped_by (half_at n r q rules some s) in
    let exists = place_exists rules.transitions y t at in
    absurd (omega arith)

pub no_overlap : (n : ℕ) → 1 ≤ n → (r q x y : ℕ) (S : SignalSet) → ¬ (IsOverlap (sample_module n) r q x y S)
no_overlap n some r q x y S o = no_two n r q x y o.rules o.second some o.state o.order o.second_at
