-- The clauses of the top call, over what its devices tell before and after. Source: this project.
use Rattle.std.specs.Prelude.{◌≡◌, ◌⊎◌, ℕ, ◌+◌, ◌-◌, ◌^◌, ◌<◌, ◌≤◌, min, List, ◌++◌, length, Some, IsSome, IsTrue, slice_get}
use Rattle.argos_base.specs.Limits.{text_limit}
use Rattle.argos_base.specs.Outside.{ahead, behind, IsAtEnd, Rose}
use Rattle.argos_base.specs.Shelves.{Files}
use Rattle.argos_base.specs.SignalSets.{SignalSet}
use Rattle.argos_congruence.specs.Congruence.{AreEqualUnderAspects}
use Rattle.argos_core.specs.Process.{PlainModule}
use Rattle.argos_verdict.specs.Jobs.{IsEnough}
use Rattle.dd_core.specs.Arenas.{ArenaView}
use Rattle.argos_words.specs.Words.{Words, Command, simulate, equiv, IsCommand}
use Rattle.trace_io.specs.Lines.{failed, used_up, input_lines}
use Rattle.argos_top.specs.Devices.{Devices}
use Rattle.argos_scope.specs.Meaning.{Means}
use Rattle.argos_top.specs.Equivalence.{AreEquivOutOfNodes, AreEquivEnough}
use Rattle.argos_top.specs.Due.{Takes, files_of, is_simulation, Due}
use Rattle.argos_top.specs.Statuses.{answer_of}
use Rattle.argos_top.specs.declared.status.Status.{Status}
use Rattle.argos_top.specs.declared.status.Status.TheVariants.{OutOfMemory}
use Rattle.argos_load.specs.EquivFiles.{AreGoodCompared}
use Rattle.argos_load.specs.Giving.{IsSpent}
use Rattle.argos_load.specs.WovenFiles.{AreGoodFiles, AreOutOfNodes, IsJudgedModule, SimulationOf}
use Rattle.argos_load.specs.Runnables.{Runnable, input_names, output_names, HasTrace}
use Rattle.argos_load.specs.Said.{Answer, Yes, Said, read_fault_file, read_fault_line}
use Rattle.argos_top.specs.Simulation.{output_lines}
use Rattle.argos_load.specs.Stages.{gives}

-- the whole begins with the part
pub record IsPart (part whole : List ℕ) : Type 0 where
  pub rest : List ℕ
  pub joined : whole ≡ part ++ rest

-- it is an answer that is due, or want of memory
abbrev pub IsAnswered : Status → Type 0
IsAnswered r = IsSome (answer_of r) ⊎ (r ≡ OutOfMemory)

-- the words load a file, or read the input
abbrev pub Loads : Words → Type 0
Loads words = (c : Command) × IsCommand words c × (1 ≤ length (files_of c))

abbrev pub Simulates : Words → Type 0
Simulates words = (c : Command) × IsCommand words c × IsTrue (is_simulation c)

-- the files of a command before the one at place k, counted from 0, are good
pub data AreGoodBefore (files : List ℕ → List ℕ) (c : Command) (k : ℕ) : Type 0 where
  woven : (file : List ℕ) (aspects : Words) (nodes : ℕ) → Takes c file aspects nodes → AreGoodFiles files file aspects k → AreGoodBefore files c k
  compared : (left right cert : List ℕ) (nodes : ℕ) → c ≡ equiv left right cert nodes → AreGoodCompared files left right cert k → AreGoodBefore files c k

-- The files are good, and so are the lines with their LF among these bytes: there are so many, and these are the outputs written for them.
pub record AreGoodLines (files : List ℕ → List ℕ) (words : Words) (taken : List ℕ) (count : ℕ) (written : List ℕ) : Type 0 where
  pub file : List ℕ
  pub aspects : Words
  pub nodes : ℕ
  pub command : IsCommand words (simulate file aspects nodes)
  pub runnable : Runnable
  pub good : SimulationOf files file aspects (gives runnable)
  pub inputs : List SignalSet
  pub outputs : List SignalSet
  pub lines : input_lines (record { bytes = taken; stop = failed }) (input_names runnable) ≡ (inputs, used_up failed)
  pub counted : count ≡ length inputs
  pub trace : HasTrace runnable inputs outputs
  pub bytes : written ≡ output_lines (output_names runnable) outputs

module _ (words : Words) (d : Devices) where
  -- these bytes were appended, and no others
  abbrev pub Appends : List ℕ → Type 0
  Appends bs = d.sink.told' ≡ behind d.sink.told bs

  -- The files are told where a file is loaded; where none is, any files will do.
  abbrev pub TellsFiles : Files → Type 0
  TellsFiles f = Loads words → d.shelf.told ≡ Some f

  -- The input is told in a simulation; elsewhere any input will do.
  abbrev pub TellsInput : List ℕ → Type 0
  TellsInput input = Simulates words → d.source.told ≡ Some input

  -- this is due, where the devices tell
  abbrev pub DueWhereTold : Said → Type 0
  DueWhereTold s = (f : Files) (input : List ℕ) → TellsFiles f → TellsInput input → Due f.file input words s

  -- Yes, No, Usage and Refused come with the due bytes.
  abbrev pub IsDue : Answer → Type 0
  IsDue a = (s : Said) × (s.answer ≡ a) × DueWhereTold s × Appends s.bytes

  -- After Yes of a simulation the source was read to its end.
  abbrev pub ReadsAll : Answer → Type 0
  ReadsAll a = Simulates words → a ≡ Yes → IsAtEnd d.source.told'

  -- the file at place k, counted from 0, failed: so many files were loaded before it, and a load of its name may fail then, unless the count of loads stands still
  pub record FailsAt (f f' : Files) (c : Command) (k : ℕ) (name : List ℕ) : Type 0 where
    pub loads : f'.loads ≡ min (f.loads + (k + 1)) (2 ^ 64 - 1)
    pub fails : f'.loads < 2 ^ 64 - 1 → IsTrue (f.fails (f.loads + k) name)
    pub good : AreGoodBefore f.file c k

  -- what is written at a read fault: of a file that the words name, or of a line, after the outputs of the lines before it
  pub data FaultBytes : List ℕ → Type 0 where
    file : (c : Command) (k : ℕ) (name : List ℕ) → IsCommand words c → slice_get (files_of c) k ≡ Some name → Rose d.shelf.faults d.shelf.faults'
        → ((f : Files) → d.shelf.told ≡ Some f → (f' : Files) × (d.shelf.told' ≡ Some f') × FailsAt f f' c k name) → FaultBytes (read_fault_file (k + 1))
    line : (count : ℕ) (taken written : List ℕ) → Simulates words → Rose d.source.faults d.source.faults' → d.source.told ≡ ahead taken d.source.told' → length taken ≤ text_limit
        → ((f : Files) → d.shelf.told ≡ Some f → AreGoodLines f.file words taken count written) → FaultBytes (written ++ read_fault_line (count + 1))

  -- Which device failed, at which file or line, and what stands.
  abbrev pub IsReadFault : Type 0
  IsReadFault = (bs : List ℕ) × FaultBytes bs × Appends bs

  -- What is written where a job found no room in this arena, which then holds as many nodes as the words give, or where none are given the usual ones. The job is one of a module that the files mean, or that of two programs that are compared, where the shelf tells its files, and needs more.
  pub data BudgetBytes (arena : ArenaView) (bs : List ℕ) : Type 0 where
    woven : (c : Command) (file : List ℕ) (aspects : Words) (nodes : ℕ) → IsCommand words c → Takes c file aspects nodes → IsSpent nodes bs arena → ((f : Files) → d.shelf.told ≡ Some f → AreOutOfNodes f.file file aspects nodes arena) → BudgetBytes arena bs
    compared : (left right cert : List ℕ) (nodes : ℕ) → IsCommand words (equiv left right cert nodes) → IsSpent nodes bs arena → ((f : Files) → d.shelf.told ≡ Some f → AreEquivOutOfNodes f.file left right cert nodes arena) → BudgetBytes arena bs

  abbrev pub IsBudget : ArenaView → Type 0
  IsBudget arena = (bs : List ℕ) × BudgetBytes arena bs × Appends bs

  -- The shelf tells its files, and the nodes are enough for each job of the modules that the files mean, and for that of two programs that are compared.
  pub record HasEnough : Type 0 where
    pub files : Files
    pub told : d.shelf.told ≡ Some files
    pub enough : (c : Command) (file : List ℕ) (aspects : Words) (nodes : ℕ) → IsCommand words c → Takes c file aspects nodes → (p : PlainModule) → IsJudgedModule files.file file aspects p → IsEnough p nodes
    pub compared : (left right cert : List ℕ) (nodes : ℕ) → IsCommand words (equiv left right cert nodes) → AreEquivEnough files.file left right cert nodes

  -- no device counts a fault
  pub record NoneFails : Type 0 where
    pub shelf : ¬ (Rose d.shelf.faults d.shelf.faults')
    pub source : ¬ (Rose d.source.faults d.source.faults')
    pub sink : ¬ (Rose d.sink.faults d.sink.faults')

  -- what was to be written
  pub data ToWrite : List ℕ → Type 0 where
    answer : (s : Said) → DueWhereTold s → ToWrite s.bytes
    fault : (bs : List ℕ) → FaultBytes bs → ToWrite bs
    budget : (arena : ArenaView) (bs : List ℕ) → BudgetBytes arena bs → ToWrite bs

  -- The sink failed, and a part of what was to be written stands.
  pub record IsWriteFault : Type 0 where
    pub rose : Rose d.sink.faults d.sink.faults'
    pub whole : List ℕ
    pub to_write : ToWrite whole
    pub part : List ℕ
    pub is_part : IsPart part whole
    pub appended : Appends part

  -- Want of memory comes before anything is written, and before the sink fails.
  pub record NothingWritten : Type 0 where
    pub held : d.sink.told' ≡ d.sink.told
    pub still : d.sink.faults' ≡ d.sink.faults

  -- The files are unchanged, and the source too but for a simulation.
  pub record LeavesInputs : Type 0 where
    pub files : (f : Files) → d.shelf.told ≡ Some f → (f' : Files) × (d.shelf.told' ≡ Some f') × (f'.file ≡ f.file)
    pub source : ¬ (Simulates words) → d.source.told' ≡ d.source.told

  -- The programs that are compared are equal under every list of aspects, where the shelf tells its files.
  abbrev pub AreCongruent : Type 0
  AreCongruent = (left right cert : List ℕ) (nodes : ℕ) (f : Files) (P Q : PlainModule) → IsCommand words (equiv left right cert nodes) → d.shelf.told ≡ Some f → Means (f.file left) P → Means (f.file right) Q → AreEqualUnderAspects P Q
