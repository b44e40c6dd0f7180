use Rattle.eqn_core.proofs.Once.{reacts_once}
use Rattle.eqn_core.proofs.laws.reacts_once.Goals as goal

pub returns : goal.returns
returns c = reacts_once
