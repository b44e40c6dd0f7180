use Rattle.argos_examples.proofs.NoReactionCases.{has_no_reaction}
use Rattle.argos_examples.proofs.reactions.emitted_where_absent_has_no_reaction.Goals as goal

pub returns : goal.returns
returns c = has_no_reaction
