-- What a file gives as a program, or what is said of it. Source: this project.
use Rattle.std.specs.Prelude.{ℕ, ◌<◌, ◌≤◌, List, length, take, Bool, bytes_eq, if◌then◌else◌}
use Rattle.argos_base.specs.Limits.{text_limit}
use Rattle.argos_base.specs.Machines.{Fault}
use Rattle.argos_base.specs.SignalSets.{SignalSet}
use Rattle.argos_compile.specs.Weaving.{plain}
use Rattle.argos_core.specs.Process.{PlainModule}
use Rattle.argos_grammar.specs.DueSymbols as symbols
use Rattle.argos_verdict.specs.Jobs.{IsTooWide, IsStopped}
use Rattle.argos_verdict.specs.Judgements.{IsAcceptable, IsBadCase}
use Rattle.c_step.specs.CFile.{IsCText, CFault}
use Rattle.c_step.specs.CStep.{CStep}
use Rattle.dd_core.specs.Arenas.{ArenaView}
use Rattle.eqn_core.specs.Equations.{Equations}
use Rattle.eqn_file.specs.EquationFile.{EquationKind, IsEquationText, EquationFault}
use Rattle.instant_check.specs.ModuleOverlaps.{IsFound}
use Rattle.line_format.specs.FileNames.{FileNames}
use Rattle.argos_grammar.specs.Faults.{Kind, FirstFault}
use Rattle.argos_grammar.specs.Forms.{ProgramForm}
use Rattle.argos_grammar.specs.Text.{IsText}
use Rattle.argos_report.specs.Reports.{overlap_text, bad_case_text, variables_text}
use Rattle.argos_scope.specs.Meaning.{Means, ScopeFault, IsScopeFault}
use Rattle.argos_load.specs.Reports.{fault_text, scope_text}
use Rattle.argos_load.specs.Runnables.{Runnable, program, equations, c_steps}
use Rattle.argos_load.specs.Said.{Refused, No, Said, said, equations_head, c_head, equation_fault_text, c_fault_text, too_long_text}
use Rattle.argos_load.specs.Stages.{Stage, gives, says, ◌then◌}

-- the file is no longer than a text may be
abbrev pub IsShortEnough : List ℕ → Type 0
IsShortEnough bs = length bs ≤ text_limit

-- the text of file k with these bytes
pub data TextOf (k : ℕ) (bs : List ℕ) : Stage (List ℕ) → Type 0 where
  short : IsShortEnough bs → TextOf k bs (gives bs)
  too_long : text_limit < length bs → TextOf k bs (says (said Refused (too_long_text k)))

-- the module that the text of file k means
pub data ModuleOf (k : ℕ) (text : List ℕ) : Stage PlainModule → Type 0 where
  means : (p : PlainModule) → Means text p → ModuleOf k text (gives p)
  fault : (at : ℕ) (kind : Kind) → FirstFault symbols.program text at kind → ModuleOf k text (says (said Refused (fault_text k at kind)))
  scope : (t : ProgramForm) (f : ScopeFault) → IsText text t → IsScopeFault t.components f → ModuleOf k text (says (said Refused (scope_text k f)))

-- the module of file k, where it is accepted
pub data AcceptedOf (k : ℕ) (p : PlainModule) : Stage PlainModule → Type 0 where
  accepted : IsAcceptable p → AcceptedOf k p (gives p)
  overlap : (r q x y : ℕ) (S : SignalSet) → IsFound p r q x y S → AcceptedOf k p (says (said Refused (overlap_text k p r q x y S)))
  bad_case : (m : List ℕ) (i : SignalSet) (f : Fault) → IsBadCase p m i f → AcceptedOf k p (says (said No (bad_case_text k p m i f)))
  too_wide : (n : ℕ) → IsTooWide p n → AcceptedOf k p (says (said Refused (variables_text k n)))

-- file k with these bytes, as a program
abbrev pub ProgramOf : ℕ → List ℕ → Stage PlainModule → Type 0
ProgramOf k bs = TextOf k bs then λ text. ModuleOf k text then AcceptedOf k

-- what a text is read as: an equation file or a C file where it begins so, else a program
pub data FileKind : Type 0 where
  equation_file c_file program_file : FileKind

abbrev pub begins : List ℕ → List ℕ → Bool
begins head text = bytes_eq head (take (length head) text)

abbrev pub file_kind : List ℕ → FileKind
file_kind text = if begins equations_head text then equation_file else (if begins c_head text then c_file else program_file)

-- what the text of file k gives for a simulation, where it is read so
pub data RunnableAs (k : ℕ) (text : List ℕ) : FileKind → Stage Runnable → Type 0 where
  a_system : (E : Equations) (n : FileNames) → IsEquationText text E n → RunnableAs k text equation_file (gives (equations E n))
  bad_line : (at : ℕ) (kind : EquationKind) → EquationFault text at kind → RunnableAs k text equation_file (says (said Refused (equation_fault_text k at kind)))
  a_step : (s : CStep) → IsCText text s → RunnableAs k text c_file (gives (c_steps s))
  not_due : (at : ℕ) → CFault text at → RunnableAs k text c_file (says (said Refused (c_fault_text k at)))
  a_program : (p : PlainModule) → (ModuleOf k text then AcceptedOf k) (gives p) → RunnableAs k text program_file (gives (program (plain p)))
  no_program : (s : Said) → (ModuleOf k text then AcceptedOf k) (says s) → RunnableAs k text program_file (says s)

abbrev pub RunnableOf : ℕ → List ℕ → Stage Runnable → Type 0
RunnableOf k text = RunnableAs k text (file_kind text)

-- file k with these bytes, for a simulation
abbrev pub RunnableFile : ℕ → List ℕ → Stage Runnable → Type 0
RunnableFile k bs = TextOf k bs then RunnableOf k

-- these bytes mean a module of which a job found no room in this arena, within so many nodes
pub record IsOutOfNodes (nodes : ℕ) (bs : List ℕ) (arena : ArenaView) : Type 0 where
  pub program : PlainModule
  pub means : Means bs program
  pub stopped : IsStopped program nodes arena
