-- Programs whose states have at most two transitions each, whose guards never hold together, have no overlap.
use Rattle.std.proofs.Common.{◌≡◌, ℕ, zero, suc, ◌<◌, List, [], ◌∷◌, Some, Bool, true, false, not, ◌&&◌, ap, sym, ◌∙◌, subst, arith, slice_get}
use Rattle.std.specs.List.{AllByRecursion}
use Rattle.argos_base.specs.SignalSets.{SignalSet, has}
use Rattle.argos_core.specs.Automata.{Automaton, rules_of, automata_of}
use Rattle.argos_core.specs.Guards.{holds}
use Rattle.argos_core.specs.Overlaps.{IsOverlap, IsProgram}
use Rattle.argos_core.specs.Process.{Transition, Rules, Process, PlainModule}
use Rattle.argos_examples.specs.TokenRing.{token_ring}
use Rattle.argos_examples.proofs.GoodPrograms.{token_ring_is_module}

-- two transitions at most, whose guards never hold together
abbrev AreApart : List Transition → Type 0
AreApart [] = Unit {0}
AreApart (t ∷ []) = Unit {0}
AreApart (t ∷ u ∷ []) = (v : SignalSet) → holds t.guard v ≡ true → holds u.guard v ≡ true → ⊥
AreApart (t ∷ u ∷ w ∷ ts) = ⊥

abbrev IsApart : Rules → Type 0
IsApart s = AreApart s.transitions

abbrev HasApartStates : Automaton → Type 0
HasApartStates a = AllByRecursion IsApart (rules_of a.states)

member : {X : Type 0} (P : X → Type 0) (xs : List X) (k : ℕ) (x : X) → AllByRecursion P xs → slice_get xs k ≡ Some x → P x
member P [] k x h at = cc
member P (y ∷ xs) zero x h at = let same : y ≡ x = cc in subst P same h.0
member P (y ∷ xs) (suc k) x h at = member P xs k x h.1 at

never_both : (ts : List Transition) (x y : ℕ) (t u : Transition) (v : SignalSet) → AreApart ts → x < y → slice_get ts x ≡ Some t → slice_get ts y ≡ Some u → holds t.guard v ≡ true → holds u.guard v ≡ true → ⊥
never_both [] x y t u v h order first second p q = cc
never_both (a ∷ []) x zero t u v h order first second p q = omega arith
never_both (a ∷ []) x (suc y) t u v h order first second p q = cc
never_both (a ∷ b ∷ []) x zero t u v h order first second p q = omega arith
never_both (a ∷ b ∷ []) zero (suc zero) t u v h order first second p q =
    let is_first : t ≡ a = cc in
    let is_second : u ≡ b = cc in
    h v (subst (λ z. holds z.guard v ≡ true) is_first p) (subst (λ z. holds z.guard v ≡ true) is_second q)
never_both (a ∷ b ∷ []) (suc x) (suc zero) t u v h order first second p q = omega arith
never_both (a ∷ b ∷ []) x (suc (suc y)) t u v h order first second p q = cc
never_both (a ∷ b ∷ c ∷ ts) x y t u v h order first second p q = h

no_overlap : (P : PlainModule) → AllByRecursion HasApartStates (automata_of P.process) → (r q x y : ℕ) (S : SignalSet) → ¬ (IsOverlap P r q x y S)
no_overlap P apart r q x y S o =
    let automaton : HasApartStates o.state.automaton = member HasApartStates (automata_of P.process) r o.state.automaton apart o.state.register in
    let rules : IsApart o.rules = member IsApart (rules_of o.state.automaton.states) q o.rules automaton o.state.state in
    never_both o.rules.transitions x y o.first o.second S rules o.order o.first_at o.second_at o.first_holds o.second_holds

-- p and r, p and not r
with_token : (p r : Bool) → (p && (r && true)) ≡ true → (p && (not r && true)) ≡ true → ⊥
with_token true true h k = cc
with_token true false h k = cc
with_token false r h k = cc

-- r, not r
request : (r : Bool) → r ≡ true → not r ≡ true → ⊥
request true h k = cc
request false h k = cc

-- the states of a cell with the token p and the request r
cell : (p r : ℕ) → ((v : SignalSet) → (has v p && (has v r && true)) ≡ true → (has v p && (not (has v r) && true)) ≡ true → ⊥) × (((v : SignalSet) → has v r ≡ true → not (has v r) ≡ true → ⊥) × Unit {0})
cell p r = (λ v. with_token (has v p) (has v r), (λ v. request (has v r), tt))

pub token_ring_is_program : IsProgram token_ring
token_ring_is_program = record {
  is = token_ring_is_module;
  no_overlap = no_overlap token_ring (cell 6 0, (cell 7 1, (cell 8 2, tt)));
}
