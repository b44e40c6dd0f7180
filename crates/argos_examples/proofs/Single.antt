-- Programs whose states have at most one transition each have no overlap.
use Rattle.std.proofs.Common.{◌≡◌, ℕ, zero, suc, ◌<◌, ◌≤◌, List, [], ◌∷◌, Some, Bool, true, leb, ap, sym, ◌∙◌, arith, length, slice_get}
use Rattle.std.specs.List.{list_all}
use Rattle.std.proofs.lemmas.Bool.Decides.{nat_tests}
use Rattle.argos_base.specs.SignalSets.{SignalSet}
use Rattle.argos_base.proofs.Bools.{and_first, and_second}
use Rattle.argos_core.specs.Automata.{Automaton, rules_of, automata_of}
use Rattle.argos_core.specs.Overlaps.{IsOverlap}
use Rattle.argos_core.specs.Process.{Transition, Rules, Process, PlainModule}

list_all-at : {X : Type 0} (p : X → Bool) (xs : List X) (k : ℕ) (x : X) → list_all p xs ≡ true → slice_get xs k ≡ Some x → p x ≡ true
list_all-at p [] k x h at = cc
list_all-at p (y ∷ xs) zero x h at = let same : y ≡ x = cc in ap p (sym same) ∙ and_first (p y) (list_all p xs) h
list_all-at p (y ∷ xs) (suc k) x h at = list_all-at p xs k x (and_second (p y) (list_all p xs) h) at

place_exists : (ts : List Transition) (k : ℕ) (t : Transition) → slice_get ts k ≡ Some t → k < length ts
place_exists [] k t at = cc
place_exists (u ∷ ts) zero t at = omega arith
place_exists (u ∷ ts) (suc k) t at = omega (arith, place_exists ts k t at)

abbrev is_single : Rules → Bool
is_single s = leb (length s.transitions) 1

abbrev all_single : Automaton → Bool
all_single a = list_all is_single (rules_of a.states)

abbrev pub has_single : Process → Bool
has_single p = list_all all_single (automata_of p)

at_most_one : (n : ℕ) → leb n 1 ≡ true → n ≤ 1
at_most_one n h = grind (arith, nat_tests)

pub no_overlap : (P : PlainModule) → has_single P.process ≡ true → (r q x y : ℕ) (S : SignalSet) → ¬ (IsOverlap P r q x y S)
no_overlap P single r q x y S o =
    let here : all_single o.state.automaton ≡ true = list_all-at all_single (automata_of P.process) r o.state.automaton single o.state.register in
    let test : is_single o.rules ≡ true = list_all-at is_single (rules_of o.state.automaton.states) q o.rules here o.state.state in
    let few : length o.rules.transitions ≤ 1 = at_most_one (length o.rules.transitions) test in
    let exists : y < length o.rules.transitions = place_exists o.rules.transitions y o.second o.second_at in
    let order : x < y = o.order in
    absurd (omega arith)
