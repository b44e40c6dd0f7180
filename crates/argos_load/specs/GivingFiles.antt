-- What code answers that is a stage over several files of the call.
use Rattle.std.specs.Prelude.{◌≡◌, ℕ, ◌+◌, zero, suc, List, Option, Some, Result, Ok, Err, IsTrue, slice_get}
use Rattle.argos_base.specs.Outside.{Rose}
use Rattle.argos_base.specs.Shelves.{Files, after_load}
use Rattle.argos_load.specs.Calls.{Call}
use Rattle.argos_load.specs.Giving.{IsSpent}
use Rattle.argos_load.specs.Said.{Refused, No, said, read_fault_file}
use Rattle.argos_load.specs.Stages.{Stage, gives, says}
use Rattle.argos_load.specs.declared.stop.Stop.{Stop}
use Rattle.argos_load.specs.declared.stop.Stop.TheVariants as stop
use Rattle.dd_core.specs.Arenas.{ArenaView}

-- what a shelf tells after so many loads
abbrev pub after_loads : ℕ → Option Files → Option Files
after_loads zero told = told
after_loads (suc n) told = after_load (after_loads n told)

-- The load of the file at some place, counted from 0, failed, and this is told of it: it was the last one, and the files before it are good.
pub record HasFailed (names : List (List ℕ)) (shelf : Call (Option Files)) (AreGood : (List ℕ → List ℕ) → ℕ → Type 0) (text : List ℕ) : Type 0 where
  pub place : ℕ
  pub name : List ℕ
  pub at : slice_get names place ≡ Some name
  pub text_is : text ≡ read_fault_file (place + 1)
  pub counted : shelf.told' ≡ after_loads (place + 1) shelf.told
  pub rose : Rose shelf.faults shelf.faults'
  pub fails : (f : Files) → after_loads place shelf.told ≡ Some f → IsTrue (f.fails f.loads name)
  pub good : (f : Files) → shelf.told ≡ Some f → AreGood f.file place

-- The answer is what the stage gives over the files with these names, seen by view, or what is said in its place, where the shelf tells its files; or
-- a load failed, or a job found no room in an arena, which Spent says.
abbrev pub IsFilesStage : {X V : Type 0} → (X → V) → Result X Stop → ℕ → List (List ℕ) → Call (Option Files) → ((List ℕ → List ℕ) → Stage V → Type 0) → ((List ℕ → List ℕ) → ℕ → Type 0) → ((List ℕ → List ℕ) → ArenaView → Type 0) → Type 0
IsFilesStage view (Ok x) nodes names shelf P AreGood Spent = (f : Files) → shelf.told ≡ Some f → P f.file (gives (view x))
IsFilesStage view (Err (stop.Refused text)) nodes names shelf P AreGood Spent = (f : Files) → shelf.told ≡ Some f → P f.file (says (said Refused text.items))
IsFilesStage view (Err (stop.No text)) nodes names shelf P AreGood Spent = (f : Files) → shelf.told ≡ Some f → P f.file (says (said No text.items))
IsFilesStage view (Err (stop.ReadFault text)) nodes names shelf P AreGood Spent = HasFailed names shelf AreGood text.items
IsFilesStage view (Err (stop.Budget text arena)) nodes names shelf P AreGood Spent = IsSpent nodes text.items arena × ((f : Files) → shelf.told ≡ Some f → Spent f.file arena)
IsFilesStage view (Err stop.OutOfMemory) nodes names shelf P AreGood Spent = Unit {0}

-- the shelf loaded some files, and no file changed
abbrev pub HasLoaded : Option Files → Option Files → Type 0
HasLoaded told told' = (n : ℕ) × (told' ≡ after_loads n told)
