-- The words of the table are those of the definition.
use Rattle.argos_base.specs.Spelling.{reserved_words}
use Rattle.argos_base.proofs.spelling.is_reserved.Goals as goal

pub returns : goal.returns
unfolding reserved_words
returns c = c.is_one_of.ensures
