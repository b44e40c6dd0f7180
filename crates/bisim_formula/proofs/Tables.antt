-- Tables of states: where a name stands.
use Rattle.std.proofs.Common.{◌≡◌, ℕ, ◌+◌, ◌<◌, ◌≤◌, List, Option, Some, None, map, length, get_or, drop, sym}
use Rattle.std.specs.Prelude.{bytes_eq, cond}
use Rattle.std.specs.List.{position_from}
use Rattle.std.proofs.lemmas.Grind.{common_steps}
use Rattle.std.proofs.lemmas.Iterator.Adapters.{position_from-zero}
use Rattle.std.proofs.lemmas.List.{at_drop_more, at_drop_all}
use Rattle.argos_base.specs.Names.{Spelled}
use Rattle.argos_core.specs.declared.prog.State.{State}
use Rattle.bisim_formula.specs.Certificates.{state_number}
use Rattle.bisim_formula.specs.inner.Lent.{states_in}

-- the place of the name among the states from the i-th on
abbrev pub place_from : Spelled → ℕ → List State → Option ℕ
place_from name i states = position_from (bytes_eq name) i (map (λ s. s.name) (states_in states))

pub place_from-zero : (name : Spelled) (states : List State) → place_from name 0 states ≡ state_number (states_in states) name
place_from-zero name states = sym (position_from-zero (bytes_eq name) (map (λ s. s.name) (states_in states)))

pub place_from-drop : (name : Spelled) (states : List State) (i : ℕ) (d : State) → i < length states → place_from name i (drop i states) ≡ cond (bytes_eq name (get_or states i d).name) (Some i) (place_from name (i + 1) (drop (i + 1) states))
place_from-drop name states i d h = at_drop_more (λ more. place_from name i more) states i d h

pub place_from-end : (name : Spelled) (states : List State) (i : ℕ) → length states ≤ i → place_from name i (drop i states) ≡ None
place_from-end name states i h = at_drop_all (λ more. place_from name i more) states i h

pub ruleset tables = (common_steps, place_from-zero, place_from-drop, place_from-end)
