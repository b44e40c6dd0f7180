use Rattle.eqn_scheme.proofs.Bounds.{equations_are_small}
use Rattle.eqn_scheme.proofs.laws.equations_are_small.Goals as goal

pub returns : goal.returns
returns c = equations_are_small
