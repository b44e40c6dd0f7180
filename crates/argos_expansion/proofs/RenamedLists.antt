-- Guards and rules with other signals, and their sizes, one after another.
use Rattle.std.proofs.Common.{◌≡◌, ℕ, ◌+◌, ◌<◌, ◌≤◌, List, [], ◌∷◌, length, get_or, drop, map, refl, sym, ap, ◌∙◌, arith}
use Rattle.std.specs.Prelude.{sum_by}
use Rattle.std.proofs.lemmas.Grind.{common_steps}
use Rattle.std.proofs.lemmas.List.{at_drop_more, at_drop_all, length-map, get_or-map, get_or_past}
use Rattle.std.proofs.lemmas.List.Sums.{sum_by-cons}
use Rattle.argos_base.specs.declared.signals.SigId.{SigId}
use Rattle.argos_core.specs.Process as plain
use Rattle.argos_core.specs.Views as core
use Rattle.argos_core.specs.Views.{numbers}
use Rattle.argos_core.specs.declared.prog.Guard.{Guard}
use Rattle.argos_expansion.specs.inner.Renaming.{signal_at, renamed_guard, renamed_guards, guard_size, guards_size, transition_size, rules_size, states_size}
use Rattle.argos_expansion.specs.inner.Shapes.{state_shape, states_shape, transition_shape}
use Rattle.argos_expansion.specs.declared.placed.PlacedState.{PlacedState}
use Rattle.argos_expansion.specs.declared.placed.PlacedTrans.{PlacedTrans}
use Rattle.argos_expansion.proofs.GuardLists.{guard_of-True, guard_of-False, guard_of-Sig, guard_of-Not, guard_of-All, guard_of-Any}

-- as many numbers as signals
pub length-numbers : (ss : List SigId) → length (numbers ss) ≡ length ss
length-numbers ss = length-map ss (λ (s : SigId). s.0)

-- the number at a place
pub number_there : (ss : List SigId) (k : ℕ) (s : SigId) → k < length ss → s ≡ get_or ss k s → s.0 ≡ signal_at (numbers ss) k
number_there ss k s h e = ap (λ (x : SigId). x.0) e ∙ sym (get_or-map (λ (x : SigId). x.0) ss k s 0 h)

pub number_past : (ss : List SigId) (k : ℕ) → length ss ≤ k → signal_at (numbers ss) k ≡ 0
number_past ss k h = let l = length-numbers ss in get_or_past (numbers ss) k 0 (omega arith)

-- the number at a place of a list of places
pub used_there : (ss : List ℕ) (ps : List SigId) (k : ℕ) (p : SigId) → k < length ps → p ≡ get_or ps k p → signal_at ss p.0 ≡ signal_at (map (signal_at ss) (numbers ps)) k
used_there ss ps k p h e =
    let l = length-numbers ps in
    ap (signal_at ss) (number_there ps k p h e) ∙ sym (get_or-map (signal_at ss) (numbers ps) k 0 0 (omega arith))

pub used_past : (ss : List ℕ) (ps : List SigId) (k : ℕ) → length ps ≤ k → signal_at (map (signal_at ss) (numbers ps)) k ≡ 0
used_past ss ps k h =
    let l = length-numbers ps in
    let m : length (map (signal_at ss) (numbers ps)) ≡ length (numbers ps) = length-map (numbers ps) (signal_at ss) in
    get_or_past (map (signal_at ss) (numbers ps)) k 0 (omega arith)

-- operands, one by one
operands : (ss : List ℕ) (gs : List Guard) → core.guards_of (map (λ g. renamed_guard ss (core.guard_of g)) gs) ≡ renamed_guards ss (core.guards_of (map core.guard_of gs))
operands ss [] = refl
operands ss (g ∷ gs) = ap (λ hs. plain.guard (renamed_guard ss (core.guard_of g)) hs) (operands ss gs)

pub guards_renamed : (made : List Guard) (ss : List ℕ) (gs : List Guard) → map core.guard_of made ≡ map (λ g. renamed_guard ss (core.guard_of g)) gs → core.guards_of (map core.guard_of made) ≡ renamed_guards ss (core.guards_of (map core.guard_of gs))
guards_renamed made ss gs e = ap core.guards_of e ∙ operands ss gs

-- sizes of what is left
pub guards_size-drop : (gs : List Guard) (i : ℕ) (d : Guard) → i < length gs → guards_size (core.guards_of (map core.guard_of (drop i gs))) ≡ guard_size (core.guard_of (get_or gs i d)) + guards_size (core.guards_of (map core.guard_of (drop (i + 1) gs)))
guards_size-drop = at_drop_more (λ gs. guards_size (core.guards_of (map core.guard_of gs)))

pub guards_size-end : (gs : List Guard) (i : ℕ) → length gs ≤ i → guards_size (core.guards_of (map core.guard_of (drop i gs))) ≡ 0
guards_size-end = at_drop_all (λ gs. guards_size (core.guards_of (map core.guard_of gs)))

pub transition_size-drop : (ss : List ℕ) (ts : List PlacedTrans) (i : ℕ) (d : PlacedTrans) → i < length ts
    → sum_by (transition_size ss) (map transition_shape (drop i ts)) ≡ transition_size ss (transition_shape (get_or ts i d)) + sum_by (transition_size ss) (map transition_shape (drop (i + 1) ts))
transition_size-drop ss ts i d h = at_drop_more (λ ts. sum_by (transition_size ss) (map transition_shape ts)) ts i d h ∙ sum_by-cons (transition_size ss) (transition_shape (get_or ts i d)) (map transition_shape (drop (i + 1) ts))

pub transition_size-end : (ss : List ℕ) (ts : List PlacedTrans) (i : ℕ) → length ts ≤ i → sum_by (transition_size ss) (map transition_shape (drop i ts)) ≡ 0
transition_size-end ss = at_drop_all (λ ts. sum_by (transition_size ss) (map transition_shape ts))

pub states_size-drop : (ss : List ℕ) (xs : List PlacedState) (i : ℕ) (d : PlacedState) → i < length xs
    → states_size ss (states_shape (drop i xs)) ≡ rules_size ss (state_shape (get_or xs i d)).rules + states_size ss (states_shape (drop (i + 1) xs))
states_size-drop ss = at_drop_more (λ xs. states_size ss (states_shape xs))

pub states_size-end : (ss : List ℕ) (xs : List PlacedState) (i : ℕ) → length xs ≤ i → states_size ss (states_shape (drop i xs)) ≡ 0
states_size-end ss = at_drop_all (λ xs. states_size ss (states_shape xs))

pub ruleset renamed_lists = (common_steps, number_there, number_past, used_there, used_past, guard_of-True, guard_of-False, guard_of-Sig, guard_of-Not, guard_of-All, guard_of-Any, guards_renamed, guards_size-drop, guards_size-end, transition_size-drop, transition_size-end, states_size-drop, states_size-end, length-numbers)
