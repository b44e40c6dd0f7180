-- The results that a cache keeps.
use Rattle.std.specs.Prelude.{◌≡◌, ℕ, List, Some, slice_get}
use Rattle.dd_core.specs.declared.nodes.NodeId.{NodeId}
use Rattle.dd_core.specs.declared.cache.Operation.{Operation}
use Rattle.dd_core.specs.declared.cache.Operation.TheVariants.{Choose}
use Rattle.dd_core.specs.declared.cache.Entry.{Entry}
use Rattle.dd_core.specs.Arenas.{ArenaView, IsArena}
use Rattle.dd_core.specs.Operations.{IsResult}

-- the entry that a cache begins with everywhere: the choice of true where false is true, else of false
abbrev pub IsInitial : Entry → Type 0
IsInitial entry = entry ≡ record { operation = Choose (record { test = record { 0 = 0 }; yes = record { 0 = 1 }; no = record { 0 = 0 } }); node = record { 0 = 0 } }

-- f is kept as the result of the operation
abbrev pub IsRecorded : List Entry → Operation → NodeId → Type 0
IsRecorded entries operation f = (k : ℕ) × (slice_get entries k ≡ Some (record { operation = operation; node = f }))

-- each result kept is right
abbrev pub AreResults : ArenaView → List Entry → Type 0
AreResults arena entries = (operation : Operation) (f : NodeId) → IsRecorded entries operation f → IsResult arena operation f

-- what holds inside each arena
pub record IsSound (arena : ArenaView) (entries : List Entry) : Type 0 where
  pub valid : IsArena arena
  pub results : AreResults arena entries
