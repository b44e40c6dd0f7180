use Rattle.c_step.proofs.StepRuns.{steps_are_runs}
use Rattle.c_step.proofs.laws.steps_are_runs.Goals as goal

pub returns : goal.returns
returns c = steps_are_runs
