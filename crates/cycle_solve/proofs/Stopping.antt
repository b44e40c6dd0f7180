-- Where the solving finds no room its budget is below the need.
use Rattle.std.proofs.Common.{◌≡◌, ℕ, List, length, ◌∙◌, arith}
use Rattle.argos_core.specs.Layouts.{RegisterShape}
use Rattle.dd_core.specs.Arenas.{ArenaView, IsEmpty, AddsAtMost, HasNoRoom}
use Rattle.dd_core.proofs.Needs.{below_need}
use Rattle.eqn_core.specs.Equations.{Equations, registers}
use Rattle.eqn_verdict.specs.Needs.{solve_operations, counted_operations}
use Rattle.eqn_verdict.proofs.Counted.{counted_are_enough}
use Rattle.instant_verdict.specs.Jobs.{job_size, job_variables, IsStopped}
use Rattle.instant_verdict.proofs.VerdictSteps.{registers-few}

pub stopped : (E : Equations) (layout : List RegisterShape) (cyclic : List ℕ) (budget : ℕ)
    (begin end : ArenaView) → length layout ≡ registers E
    → IsEmpty (job_variables E layout cyclic) budget begin
    → AddsAtMost (solve_operations (job_size E layout cyclic)) begin end → HasNoRoom end
    → IsStopped E layout cyclic budget end
stopped E layout cyclic budget begin end shapes empty adds room =
    let j = job_size E layout cyclic in
    record {
      variables_are = adds.keeps.variables ∙ empty.variables;
      budget_is = adds.keeps.budget ∙ empty.budget;
      full = room.full;
      lacks = room.lacks;
      below = below_need (counted_operations j) (solve_operations j)
          (job_variables E layout cyclic) budget begin end empty adds
          ((counted_are_enough j (omega (arith, registers-few layout, shapes))).1) room;
    }
