-- The job of diagrams that a check for equivalence is, and the arena in which an operation found no room. Source: this project.
use Rattle.std.specs.Prelude.{◌≡◌, ℕ, ◌+◌, ◌<◌}
use Rattle.argos_core.specs.Layouts.{layout_of}
use Rattle.argos_core.specs.Process.{PlainModule}
use Rattle.argos_core.specs.Reactions.{output_count}
use Rattle.argos_congruence.specs.Congruence.{HaveSameNames}
use Rattle.bisim_formula.specs.Formulas.{Formula, formula_size}
use Rattle.bisim_verdict.specs.Bisimulation.{StartsRelated}
use Rattle.bisim_verdict.specs.Counts.{EquivSize, counted_operations}
use Rattle.bisim_verdict.specs.EquivTests.{variables}
use Rattle.dd_core.specs.Arenas.{ArenaView, IsFull, LacksFunction}
use Rattle.dd_core.specs.Functions.{need}
use Rattle.eqn_core.specs.Equations.{Equations, registers, weight_of}
use Rattle.eqn_dd.specs.Structural.{widths_of}

-- the register bits of both programs and the inputs
abbrev pub job_variables : PlainModule → PlainModule → ℕ
job_variables P Q = variables P (widths_of (layout_of P.process)) (widths_of (layout_of Q.process))

abbrev pub job_size : Formula → PlainModule → PlainModule → Equations → Equations → EquivSize
job_size F P Q E G = record {
  weight = weight_of E + weight_of G;
  variables = job_variables P Q;
  registers = registers E + registers G;
  outputs = output_count P;
  formula = formula_size F;
}

-- there is a job only where the names are the same and the initial memories are related
pub record IsJob (F : Formula) (P Q : PlainModule) : Type 0 where
  pub same : HaveSameNames P Q
  pub started : StartsRelated F P Q

-- the job's arena where an operation answered Budget: it holds as many nodes as it may, which is fewer than the job needs, and lacks a function of its variables
pub record IsStopped (F : Formula) (P Q : PlainModule) (E G : Equations) (budget : ℕ) (arena : ArenaView) : Type 0 where
  pub job : IsJob F P Q
  pub variables_are : arena.variables ≡ job_variables P Q
  pub budget_is : arena.budget ≡ budget
  pub full : IsFull arena
  pub lacks : LacksFunction arena
  pub below : budget < need (counted_operations (job_size F P Q E G)) (job_variables P Q)
