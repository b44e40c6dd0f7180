-- What code answers that is a stage of the call.
use Rattle.std.specs.Prelude.{◌≡◌, ℕ, List, Option, Some, Result, Ok, Err, IsTrue}
use Rattle.argos_base.specs.Outside.{Rose}
use Rattle.argos_base.specs.Shelves.{Files}
use Rattle.argos_compile.specs.WovenViews.{woven_view}
use Rattle.argos_compile.specs.declared.accepted.Accepted.{Accepted}
use Rattle.argos_core.specs.ModuleViews.{module_of}
use Rattle.argos_core.specs.Process.{PlainModule}
use Rattle.argos_load.specs.Calls.{Call}
use Rattle.argos_load.specs.EquivFiles.{Comparison, comparison}
use Rattle.argos_load.specs.Programs.{AcceptedOf}
use Rattle.argos_load.specs.Runnables.{Runnable, program, equations, c_steps}
use Rattle.argos_load.specs.Said.{Refused, No, said, read_fault_file}
use Rattle.argos_load.specs.Stages.{Stage, gives, says}
use Rattle.argos_load.specs.declared.equiv.Compared.{Compared}
use Rattle.argos_load.specs.declared.files.Loaded.{Loaded}
use Rattle.argos_load.specs.declared.files.Loaded.TheVariants as loaded
use Rattle.argos_load.specs.declared.stop.Stop.{Stop}
use Rattle.argos_load.specs.declared.stop.Stop.TheVariants as stop
use Rattle.argos_report.specs.Reports.{budget_text}
use Rattle.argos_verdict.specs.Jobs.{IsStopped}
use Rattle.bisim_formula.specs.Views.{formula_of}
use Rattle.c_step.specs.StepViews.{step_of}
use Rattle.dd_core.specs.Arenas.{ArenaView, IsFull}
use Rattle.line_format.specs.FileNames.{HasNames, names_of}

-- a full arena of so many nodes, and what is told of it
pub record IsSpent (nodes : ℕ) (text : List ℕ) (arena : ArenaView) : Type 0 where
  pub text_is : text ≡ budget_text nodes
  pub budget : arena.budget ≡ nodes
  pub full : IsFull arena

-- what is said of file k in the place of its module, which isn't accepted within so many nodes
abbrev pub IsSaidOf : ℕ → PlainModule → ℕ → Stop → Type 0
IsSaidOf k p nodes (stop.Refused text) = AcceptedOf k p (says (said Refused text.items))
IsSaidOf k p nodes (stop.No text) = AcceptedOf k p (says (said No text.items))
IsSaidOf k p nodes (stop.ReadFault text) = ⊥
IsSaidOf k p nodes (stop.Budget text arena) = IsSpent nodes text.items arena × IsStopped p nodes arena
IsSaidOf k p nodes stop.OutOfMemory = Unit {0}

-- The answer is what the stage gives, seen by view, or what is said in its place; or a job found no room in an arena, which spent says.
abbrev pub IsStage : {X V : Type 0} → (X → V) → Result X Stop → ℕ → (Stage V → Type 0) → (ArenaView → Type 0) → Type 0
IsStage view (Ok x) nodes P Spent = P (gives (view x))
IsStage view (Err (stop.Refused text)) nodes P Spent = P (says (said Refused text.items))
IsStage view (Err (stop.No text)) nodes P Spent = P (says (said No text.items))
IsStage view (Err (stop.ReadFault text)) nodes P Spent = ⊥
IsStage view (Err (stop.Budget text arena)) nodes P Spent = IsSpent nodes text.items arena × Spent arena
IsStage view (Err stop.OutOfMemory) nodes P Spent = Unit {0}

-- The same of file k with this name, where the shelf tells its files; or the load failed. Spent says of the file's bytes for which job an arena had no room.
abbrev pub IsFileStage : {X V : Type 0} → (X → V) → Result X Stop → ℕ → ℕ → List ℕ → Call (Option Files) → (List ℕ → Stage V → Type 0) → (List ℕ → ArenaView → Type 0) → Type 0
IsFileStage view (Ok x) k nodes name shelf P Spent = (f : Files) → shelf.told ≡ Some f → P (f.file name) (gives (view x))
IsFileStage view (Err (stop.Refused text)) k nodes name shelf P Spent = (f : Files) → shelf.told ≡ Some f → P (f.file name) (says (said Refused text.items))
IsFileStage view (Err (stop.No text)) k nodes name shelf P Spent = (f : Files) → shelf.told ≡ Some f → P (f.file name) (says (said No text.items))
IsFileStage view (Err (stop.ReadFault text)) k nodes name shelf P Spent = (text.items ≡ read_fault_file k) × Rose shelf.faults shelf.faults' × ((f : Files) → shelf.told ≡ Some f → IsTrue (f.fails f.loads name))
IsFileStage view (Err (stop.Budget text arena)) k nodes name shelf P Spent = IsSpent nodes text.items arena × ((f : Files) → shelf.told ≡ Some f → Spent (f.file name) arena)
IsFileStage view (Err stop.OutOfMemory) k nodes name shelf P Spent = Unit {0}

-- the module that was accepted
abbrev pub program_of : Accepted → PlainModule
program_of a = module_of a.«module»

-- the programs that are compared, and the formula
abbrev pub comparison_of : Compared → Comparison
comparison_of c = comparison (program_of c.left) (program_of c.right) (formula_of c.cert)

-- what was loaded for a simulation
abbrev pub runnable_of : Loaded → Runnable
runnable_of (loaded.Program w) = program (woven_view w)
runnable_of (loaded.Equations ordered names) = equations ordered (names_of names)
runnable_of (loaded.CText step) = c_steps (step_of step)

-- a system has a name for each input and output
abbrev pub IsLoaded : Loaded → Type 0
IsLoaded (loaded.Program w) = Unit {0}
IsLoaded (loaded.Equations ordered names) = HasNames ordered (names_of names)
IsLoaded (loaded.CText step) = Unit {0}
