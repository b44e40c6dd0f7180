use Rattle.eqn_completion.proofs.OrderedPlans.{ordered_lines_exist, ordered_are_planned}
use Rattle.eqn_completion.proofs.PlannedCodes.{planned_have_codes}
use Rattle.eqn_completion.proofs.laws.ordered_systems.Goals as goal

pub returns-clause-lines : goal.returns-clause-lines
returns-clause-lines c = ordered_lines_exist

pub returns-clause-plan : goal.returns-clause-plan
returns-clause-plan c = ordered_are_planned

pub returns-clause-codes : goal.returns-clause-codes
returns-clause-codes c = planned_have_codes
