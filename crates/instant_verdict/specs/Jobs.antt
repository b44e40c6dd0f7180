-- The job of diagrams that a system with cyclic bits is: its variables, and the arena in which an operation found no room. Source: this
-- project.
use Rattle.std.specs.Prelude.{◌≡◌, ℕ, ◌+◌, ◌<◌, List, length}
use Rattle.argos_core.specs.Layouts.{RegisterShape}
use Rattle.dd_core.specs.Arenas.{ArenaView, IsFull, LacksFunction}
use Rattle.dd_core.specs.Functions.{need}
use Rattle.eqn_completion.specs.Binary.{digits_in}
use Rattle.eqn_core.specs.Equations.{Equations, registers, weight_of}
use Rattle.eqn_dd.specs.Structural.{widths_of}
use Rattle.eqn_verdict.specs.Needs.{JobSize, variables, counted_operations}

abbrev pub job_size : Equations → List RegisterShape → List ℕ → JobSize
job_size E layout cyclic = record {
  weight = weight_of E;
  registers = registers E;
  outputs = length E.outputs;
  points = digits_in (widths_of layout) + E.inputs;
  cyclic = length cyclic;
}

-- the register bits, inputs and cyclic bits
abbrev pub job_variables : Equations → List RegisterShape → List ℕ → ℕ
job_variables E layout cyclic = variables (job_size E layout cyclic)

-- the job's arena where an operation answered Budget: it holds as many nodes as it may, which is fewer than the job needs, and lacks a
-- function of its variables
pub record IsStopped (E : Equations) (layout : List RegisterShape) (cyclic : List ℕ) (budget : ℕ) (arena : ArenaView) : Type 0 where
  pub variables_are : arena.variables ≡ job_variables E layout cyclic
  pub budget_is : arena.budget ≡ budget
  pub full : IsFull arena
  pub lacks : LacksFunction arena
  pub below : budget < need (counted_operations (job_size E layout cyclic)) (job_variables E layout cyclic)
