use Rattle.argos_core.proofs.CodedReactions.{once_coded, once_decoded}
use Rattle.argos_core.proofs.laws.reactions_are_coded.Goals as goal

pub returns : goal.returns
returns c = λ P d i shaped is. (once_coded P d i is, once_decoded P d i shaped is)
