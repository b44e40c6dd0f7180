use Rattle.c_step.proofs.StepRuns.{runs_once}
use Rattle.c_step.proofs.laws.c_steps_run_once.Goals as goal

pub returns : goal.returns
returns c = runs_once
