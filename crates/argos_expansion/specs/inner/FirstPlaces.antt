-- The first places of names in a list. Source: this project.
use Rattle.std.specs.Prelude.{◌≡◌, ℕ, suc, List, [], ◌∷◌, Bool, Option, Some, None, option_map, bytes_eq, if◌then◌else◌}
use Rattle.indexmap.specs.IndexMap.{IndexMap, get}

abbrev pub first_place : List ℕ → List (List ℕ) → Option ℕ
first_place name [] = None
first_place name (n ∷ ns) = if bytes_eq n name then Some 0 else option_map suc (first_place name ns)

-- a place that was found, or else the one at hand where the name stands there
abbrev pub first_or : Option ℕ → Bool → ℕ → Option ℕ
first_or (Some k) here place = Some k
first_or None here place = if here then Some place else None

-- a map has the first places
abbrev pub AreFirst : {S : Type 0} → List (List ℕ) → IndexMap (List ℕ) ℕ S → Type 0
AreFirst ns m = (name : List ℕ) → get bytes_eq m name ≡ first_place name ns
