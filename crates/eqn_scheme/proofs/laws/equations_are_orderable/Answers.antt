use Rattle.eqn_scheme.proofs.Cycles.{equations_are_orderable_of}
use Rattle.eqn_scheme.proofs.laws.equations_are_orderable.Goals as goal

pub returns : goal.returns
returns c = equations_are_orderable_of
