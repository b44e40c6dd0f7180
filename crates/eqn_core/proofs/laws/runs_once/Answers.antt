use Rattle.eqn_core.proofs.Once.{runs_once}
use Rattle.eqn_core.proofs.laws.runs_once.Goals as goal

pub returns : goal.returns
returns c = runs_once
