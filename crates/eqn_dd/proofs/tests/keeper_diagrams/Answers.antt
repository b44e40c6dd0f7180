use Rattle.eqn_dd.proofs.Samples.{drawable_there, names_there}
use Rattle.eqn_dd.proofs.tests.keeper_diagrams.Goals as goal

pub diagrams_of-requires-clause-drawable : goal.diagrams_of-requires-clause-drawable
diagrams_of-requires-clause-drawable c =
    drawable_there c.in_ok-system.ensures c.in_ok-plan.ensures.order c.in_ok-plan.ensures.cyclic

pub diagrams_of-requires-clause-places : goal.diagrams_of-requires-clause-places
diagrams_of-requires-clause-places c =
    names_there c.in_ok-arena.ensures.ok.variables c.in_ok-system.ensures c.in_ok-plan.ensures.cyclic
    c.in_ok-places.ensures
