use Rattle.eqn_dd.proofs.PlannedSystems.{planned_placeable, planned_drawable}
use Rattle.eqn_dd.proofs.laws.planned.Goals as goal

pub returns-clause-placeable : goal.returns-clause-placeable
returns-clause-placeable c = planned_placeable

pub returns-clause-drawable : goal.returns-clause-drawable
returns-clause-drawable c = planned_drawable
