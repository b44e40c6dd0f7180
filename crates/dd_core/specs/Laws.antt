-- Laws of arenas.
use Rattle.std.specs.Prelude.{◌≡◌, ℕ, ◌^◌, ◌<◌}
use Rattle.dd_core.specs.Functions.{AreEqual, need}
use Rattle.dd_core.specs.Arenas.{ArenaView, IsArena, Holds, function_of, IsEmpty, AddsAtMost, HasNoRoom}

-- nodes with equal functions are one node
abbrev pub EqualFunctionsHaveEqualIds : Type 0
EqualFunctionsHaveEqualIds = (arena : ArenaView) (f g : ℕ) → IsArena arena → Holds arena f → Holds arena g
    → AreEqual arena.variables (function_of arena f) (function_of arena g) → f ≡ g

-- an arena without room holds fewer nodes than there are functions of its variables
abbrev pub FullArenasAreSmall : Type 0
FullArenasAreSmall = (arena : ArenaView) → IsArena arena → HasNoRoom arena → arena.budget < 2 ^ 2 ^ arena.variables

-- So where fewer than n operations on an arena that was empty leave no room, its budget is below the need of n operations.
abbrev pub NeedIsEnough : Type 0
NeedIsEnough = (n operations v budget : ℕ) (begin end : ArenaView) → IsEmpty v budget begin
    → AddsAtMost operations begin end → operations < n → HasNoRoom end → budget < need n v
