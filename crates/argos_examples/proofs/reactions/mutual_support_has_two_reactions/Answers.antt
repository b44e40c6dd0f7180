use Rattle.argos_examples.proofs.MutualSupportCases.{has_two_first_reactions, has_no_third_reaction}
use Rattle.argos_examples.proofs.reactions.mutual_support_has_two_reactions.Goals as goal

pub returns-clause-first : goal.returns-clause-first
returns-clause-first c = has_two_first_reactions

pub returns-clause-all : goal.returns-clause-all
returns-clause-all c = has_no_third_reaction
