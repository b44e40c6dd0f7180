use Rattle.argos_grammar.proofs.WellFormed.{aspect_text_formed}
use Rattle.argos_grammar.proofs.tree_laws.aspects_are_well_formed.Goals as goal

pub returns : goal.returns
returns c = aspect_text_formed
