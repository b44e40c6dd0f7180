-- What the command equiv says of two programs and a certificate over them, and which jobs it has. Source: this project.
use Rattle.std.specs.Prelude.{◌≡◌, ℕ, ◌+◌, ◌*◌, ◌<◌, ◌≤◌, List, ◌++◌, codes}
use Rattle.argos_base.specs.Names.{Spelled}
use Rattle.argos_compile.specs.Accepting.{IsLineBound}
use Rattle.argos_core.specs.Automata.{register_count}
use Rattle.argos_core.specs.Process.{PlainModule}
use Rattle.argos_core.specs.Reactions.{output_count}
use Rattle.argos_load.specs.EquivFiles.{Comparison, EquivOf, IsComparedModule, AreComparedOutOfNodes}
use Rattle.argos_load.specs.Said.{Yes, No, Refused, Said, said, yes_text}
use Rattle.argos_load.specs.Stages.{gives}
use Rattle.argos_report.specs.Differences.{outputs_differ_text, left_by_step_text}
use Rattle.argos_report.specs.Reports.{variables_text}
use Rattle.argos_report.specs.Texts.{line}
use Rattle.argos_verdict.specs.Jobs.{IsEnough}
use Rattle.bisim_check.specs.Found.{FitsJob}
use Rattle.bisim_check.specs.Jobs.{job_variables, IsJob}
use Rattle.bisim_formula.specs.Formulas.{formula_size}
use Rattle.bisim_verdict.specs.Bisimulation.{EquivAnswer, accept, interfaces, start, outputs, leaves, IsEquivAnswer}
use Rattle.bisim_verdict.specs.Counts.{EquivSize, counted_operations}
use Rattle.dd_core.specs.Arenas.{ArenaView, LacksFunction}
use Rattle.dd_core.specs.Functions.{need}

-- this name is an interface's, and not of the same kind in the other one
abbrev pub interfaces_text : Spelled → List ℕ
interfaces_text name = line (codes "no: interfaces differ on " ++ name)

abbrev pub start_text : List ℕ
start_text = line (codes "no: initial pair not related")

-- what is said of two programs where this is the answer
abbrev pub said_of : PlainModule → PlainModule → EquivAnswer → Said
said_of P Q accept = said Yes yes_text
said_of P Q (interfaces name) = said No (interfaces_text name)
said_of P Q start = said No start_text
said_of P Q (outputs m n i name) = said No (outputs_differ_text P Q m n i name)
said_of P Q (leaves m n i) = said No (left_by_step_text P Q m n i)

-- What is said of two programs and a formula: the due answer, which needs no job or a job that has few enough variables; or that the job has too many. File 3 is the certificate.
pub data Compared (x : Comparison) : Said → Type 0 where
  answered : (a : EquivAnswer) → ∥ IsEquivAnswer x.formula x.left x.right a ∥₁ → FitsJob x.left x.right a → Compared x (said_of x.left x.right a)
  too_wide : (n : ℕ) → ∥ IsJob x.formula x.left x.right ∥₁ → n ≡ job_variables x.left x.right → 1024 < n → Compared x (said Refused (variables_text 3 n))

-- the size of the job, where these are the bounds on the lines of both programs: ordered equations weigh four times that at most
abbrev pub bounded_size : Comparison → ℕ → ℕ → EquivSize
bounded_size x left_most right_most = record {
  weight = 4 * left_most + 4 * right_most;
  variables = job_variables x.left x.right;
  registers = register_count x.left.process + register_count x.right.process;
  outputs = output_count x.left;
  formula = formula_size x.formula;
}

-- how many nodes the job needs, where these are the bounds on lines
abbrev pub comparison_need : Comparison → ℕ → ℕ → ℕ
comparison_need x left_most right_most = need (counted_operations (bounded_size x left_most right_most)) (job_variables x.left x.right)

-- the arena in which the job found no room: it lacks a function of the job's variables, and the job needs more than so many nodes
pub record IsComparisonStopped (x : Comparison) (nodes : ℕ) (arena : ArenaView) : Type 0 where
  pub job : IsJob x.formula x.left x.right
  pub variables_are : arena.variables ≡ job_variables x.left x.right
  pub lacks : LacksFunction arena
  pub left_most : ℕ
  pub right_most : ℕ
  pub left_bound : IsLineBound x.left left_most
  pub right_bound : IsLineBound x.right right_most
  pub below : nodes < comparison_need x left_most right_most

-- where each file name has this file, the programs of files 1 and 2, and the certificate of file 3
module _ (files : List ℕ → List ℕ) (left right cert : List ℕ) (nodes : ℕ) where
  -- a job found no room in this arena: one of a program, or that of the comparison
  pub data AreEquivOutOfNodes (arena : ArenaView) : Type 0 where
    of_module : AreComparedOutOfNodes files left right cert nodes arena → AreEquivOutOfNodes arena
    of_comparison : (x : Comparison) → EquivOf files left right cert (gives x) → ∥ IsComparisonStopped x nodes arena ∥₁ → AreEquivOutOfNodes arena

  -- the nodes are what each job needs
  pub record AreEquivEnough : Type 0 where
    pub modules : (p : PlainModule) → IsComparedModule files left right cert p → IsEnough p nodes
    pub comparison : (x : Comparison) (left_most right_most : ℕ) → EquivOf files left right cert (gives x) → IsJob x.formula x.left x.right → IsLineBound x.left left_most → IsLineBound x.right right_most → comparison_need x left_most right_most ≤ nodes
