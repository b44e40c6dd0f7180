-- The names in scope, as the code keeps them.
use Rattle.std.specs.Prelude.{◌≡◌, List, [], ◌∷◌, ℕ, Option, Some, None, option_map, bytes_eq}
use Rattle.indexmap.specs.IndexMap.{IndexMap, get}
use Rattle.argos_names.specs.Scope as scope
use Rattle.argos_names.specs.Scope.{sort_in}
use Rattle.argos_names.specs.inner.SortViews.{sort_of}
use Rattle.argos_names.specs.declared.scope.Sort.{Sort}
use Rattle.argos_names.specs.declared.scope.Declared.{Declared}

-- the scope with names that came one by one
abbrev pub scope_from : List Declared → scope.Scope → scope.Scope
scope_from [] s = s
scope_from (d ∷ ds) s = scope_from ds ((d.name, sort_of d.sort) ∷ s)

-- each has what its name was before
abbrev pub AreHidden : List Declared → scope.Scope → Type 0
AreHidden [] s = Unit {0}
AreHidden (d ∷ ds) s = (option_map sort_of d.hidden ≡ sort_in s d.name) × AreHidden ds ((d.name, sort_of d.sort) ∷ s)

-- what a map of sorts says of a name: nothing where the name left the scope
abbrev pub stands_as : Option (Option Sort) → Option scope.Sort
stands_as None = None
stands_as (Some o) = option_map sort_of o

-- what was declared, and the sorts by name
pub record IsKept {S : Type 0} (ds : List Declared) (m : IndexMap (List ℕ) (Option Sort) S) : Type 0 where
  pub sorts : (name : List ℕ) → stands_as (get bytes_eq m name) ≡ sort_in (scope_from ds []) name
  pub hidden : AreHidden ds []
