use Rattle.eqn_dd.proofs.Samples.{registers_there}
use Rattle.eqn_dd.proofs.tests.keeper_structural.Goals as goal

pub structural-requires-clause-places : goal.structural-requires-clause-places
structural-requires-clause-places c = registers_there c.in_ok-arena.ensures.ok.variables c.in_ok-places.ensures
