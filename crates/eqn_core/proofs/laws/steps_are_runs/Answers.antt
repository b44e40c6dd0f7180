use Rattle.eqn_core.proofs.Once.{steps_are_runs}
use Rattle.eqn_core.proofs.laws.steps_are_runs.Goals as goal

pub returns : goal.returns
returns c = steps_are_runs
