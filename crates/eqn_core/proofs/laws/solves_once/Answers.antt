use Rattle.eqn_core.proofs.Once.{solves_once}
use Rattle.eqn_core.proofs.laws.solves_once.Goals as goal

pub returns : goal.returns
returns c = solves_once
