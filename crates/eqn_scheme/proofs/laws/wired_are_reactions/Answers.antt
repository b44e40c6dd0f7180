use Rattle.eqn_scheme.proofs.WiredReactions.{wired_are_reactions, wired_stay_structural}
use Rattle.eqn_scheme.proofs.laws.wired_are_reactions.Goals as goal

pub returns-clause-reactions : goal.returns-clause-reactions
returns-clause-reactions c = wired_are_reactions

pub returns-clause-structural : goal.returns-clause-structural
returns-clause-structural c = wired_stay_structural
