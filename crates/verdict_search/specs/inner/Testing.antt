-- The tests of points. Source: this project.
use Rattle.std.specs.Prelude.{◌≡◌, ℕ, ◌+◌, List, [], ◌∷◌, Bool, true, false, ◌&&◌, ◌||◌, not, if◌then◌else◌, length, slice_index_or, All}
use Rattle.dd_core.specs.declared.nodes.NodeId.{NodeId}
use Rattle.dd_core.specs.Functions.{Function}
use Rattle.dd_core.specs.Arenas.{ArenaView, function_of}
use Rattle.eqn_completion.specs.Findings.{Finding}
use Rattle.eqn_dd.specs.Denoting.{Denotes}
use Rattle.eqn_verdict.specs.Diagrams.{Splits}
use Rattle.eqn_verdict.specs.Searching.{Test, some, with, differs, some_differ}
use Rattle.eqn_verdict.specs.Verdicts.{is_bad}
use Rattle.eqn_verdict.specs.Verdicts as verdicts
use Rattle.verdict_search.specs.declared.parting.Parts.{Parts}
use Rattle.verdict_search.specs.Parts.{meet, part_of}
use Rattle.verdict_search.specs.Splitting.{AreSplit, IsTestOf, AreSearched}

-- e is true where some values of the variables from a on make f true
abbrev pub IsSomeFrom : ArenaView → ArenaView → ℕ → ℕ → ℕ → Type 0
IsSomeFrom old new a f e = (c : ℕ) (F : Finding) → old.variables ≡ a + c → Splits a c (function_of old f) F → IsTestOf new a c e (λ y. some c (F y))

-- e is true where some values make all these true
abbrev pub IsSomeOfAll : ArenaView → ArenaView → ℕ → List NodeId → ℕ → Type 0
IsSomeOfAll old new a fs e = (c : ℕ) (K : Finding) → old.variables ≡ a + c → Splits a c (meet old fs) K → IsTestOf new a c e (λ y. some c (K y))

-- true where those of the nodes are whose flag is set
abbrev pub chosen_of : ArenaView → List Bool → List NodeId → Function
chosen_of arena [] fs x = true
chosen_of arena (b ∷ flags) [] x = true
chosen_of arena (b ∷ flags) (f ∷ fs) x = (if b then function_of arena f.0 x else true) && chosen_of arena flags fs x

-- the parts of these cyclic bits have their flag set
abbrev pub AreChosen : List ℕ → List ℕ → List Bool → Type 0
AreChosen labels read flags = All (λ j. slice_index_or flags (part_of labels j) false ≡ true) read

-- e is true where some parts are consistent, and those of these cyclic bits are among them
pub record IsNear (old new : ArenaView) (parts : Parts) (read : List ℕ) (e : ℕ) : Type 0 where
  pub flags : List Bool
  pub sized : length flags ≡ length parts.consistent.items
  pub chosen : AreChosen parts.labels.items read flags
  pub is : Denotes new e (chosen_of old flags parts.consistent.items)

-- e is true where some consistent values make g true
abbrev pub IsSomeWith : ArenaView → ArenaView → ℕ → ℕ → ℕ → ℕ → Type 0
IsSomeWith old new a consistent g e = (c : ℕ) (K G : Finding) → old.variables ≡ a + c → Splits a c (function_of old consistent) K → Splits a c (function_of old g) G → IsTestOf new a c e (λ y. some c (with (K y) (G y)))

-- d is true where g differs among the consistent values
abbrev pub IsDiffering : ArenaView → ArenaView → ℕ → ℕ → ℕ → ℕ → Type 0
IsDiffering old new a consistent g d = (c : ℕ) (K G : Finding) → old.variables ≡ a + c → Splits a c (function_of old consistent) K → Splits a c (function_of old g) G → IsTestOf new a c d (λ y. differs c (K y) (G y))

-- Where some values are consistent in all parts, e is true where f is, or g differs; where none are, so is f.
abbrev pub IsOrDiffering : ArenaView → ArenaView → ℕ → List NodeId → ℕ → ℕ → ℕ → Type 0
IsOrDiffering old new a parts f g e = (c : ℕ) (K G : Finding) (t : Test) → old.variables ≡ a + c → Splits a c (meet old parts) K → Splits a c (function_of old g) G → IsTestOf old a c f (λ y. not (some c (K y)) || t y)
    → IsTestOf new a c e (λ y. not (some c (K y)) || (t y || differs c (K y) (G y)))

-- e is true where no values are consistent in all parts, or some result differs
abbrev pub IsNoneOrDiffering : ArenaView → ArenaView → ℕ → List NodeId → List NodeId → ℕ → Type 0
IsNoneOrDiffering old new a parts results e = (c : ℕ) (K : Finding) (gs : List Finding) → old.variables ≡ a + c → Splits a c (meet old parts) K → AreSplit old a c results gs
    → IsTestOf new a c e (λ y. not (some c (K y)) || some_differ c (K y) (verdicts.at gs y))

-- e is true at the bad points
abbrev pub IsBadTest : ArenaView → ArenaView → ℕ → ℕ → List NodeId → List NodeId → ℕ → Type 0
IsBadTest old new a structural parts results e = (c : ℕ) (s : Test) (K : Finding) (gs : List Finding) → AreSearched old a c structural parts results s K gs → IsTestOf new a c e (is_bad c s K gs)
