-- The names in scope, as the code keeps them.
use Rattle.std.specs.Prelude.{◌≡◌, ℕ, List, [], ◌∷◌, unwrap_or, bytes_eq}
use Rattle.indexmap.specs.IndexMap.{IndexMap, get}
use Rattle.argos_expansion.specs.Expansion.{Numbers, number_in}
use Rattle.argos_expansion.specs.declared.scope.Declared.{Declared}

-- the scope with names that came one by one
abbrev pub scope_from : List Declared → Numbers → Numbers
scope_from [] s = s
scope_from (d ∷ ds) s = scope_from ds ((d.name, d.place) ∷ s)

-- each has the place that its name had before
abbrev pub AreHidden : List Declared → Numbers → Type 0
AreHidden [] s = Unit {0}
AreHidden (d ∷ ds) s = (d.hidden ≡ number_in s d.name) × AreHidden ds ((d.name, d.place) ∷ s)

-- what was declared, and the places by name
pub record IsKept {S : Type 0} (ds : List Declared) (m : IndexMap (List ℕ) ℕ S) : Type 0 where
  pub places : (name : List ℕ) → unwrap_or (get bytes_eq m name) 0 ≡ number_in (scope_from ds []) name
  pub hidden : AreHidden ds []
