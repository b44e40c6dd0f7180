use Rattle.eqn_scheme.proofs.PresentLocals.{settled_are_reactions}
use Rattle.eqn_scheme.proofs.laws.settled_are_reactions.Goals as goal

pub returns : goal.returns
returns c = settled_are_reactions
