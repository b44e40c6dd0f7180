use Rattle.c_step.proofs.OnlyRegisters.{steps_react}
use Rattle.c_step.proofs.laws.c_steps_react.Goals as goal

pub returns : goal.returns
returns c = steps_react
