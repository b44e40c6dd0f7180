use Rattle.argos_core.proofs.StepsStay.{initial_is, step_stays}
use Rattle.argos_core.proofs.laws.steps_stay.Goals as goal

pub returns-clause-initial : goal.returns-clause-initial
returns-clause-initial c = initial_is

pub returns-clause-step : goal.returns-clause-step
returns-clause-step c n p from v o to shaped is step = step_stays p n from v o to shaped is step
