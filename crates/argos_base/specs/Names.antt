-- Lists of names. Source: this project.
use Rattle.std.specs.Prelude.{ℕ, ◌≤◌, List, [], ◌∷◌, ◌++◌, Bool, true, ◌&&◌, not, Option, length, bytes_eq, position, IsTrue}
use Rattle.std.specs.List.{list_all}
use Rattle.argos_base.specs.Limits.{signal_limit}
use Rattle.argos_base.specs.Spelling.{is_one_of, is_name}

-- a name, as its bytes
abbrev pub Spelled : Type 0
Spelled = List ℕ

-- no name stands twice
abbrev pub are_distinct : List Spelled → Bool
are_distinct [] = true
are_distinct (n ∷ names) = not (is_one_of names n) && are_distinct names

abbrev pub AreDistinct : List Spelled → Type 0
AreDistinct names = IsTrue (are_distinct names)

-- the first place where the name stands
abbrev pub place_of : List Spelled → Spelled → Option ℕ
place_of names name = position (bytes_eq name) names

-- what a table of names keeps
pub record IsTable (names : List Spelled) : Type 0 where
  pub distinct : AreDistinct names
  pub short : length names ≤ signal_limit
  pub spelled : IsTrue (list_all is_name names)

-- the names with this text between two
abbrev pub joined_by : List ℕ → List Spelled → List ℕ
joined_by s [] = []
joined_by s (w ∷ []) = w
joined_by s (w ∷ v ∷ ws) = w ++ s ++ joined_by s (v ∷ ws)
