use Rattle.c_step.proofs.StepRuns.{reacts_once}
use Rattle.c_step.proofs.laws.c_steps_react_once.Goals as goal

pub returns : goal.returns
returns c = reacts_once
