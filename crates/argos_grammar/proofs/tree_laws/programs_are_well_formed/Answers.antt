use Rattle.argos_grammar.proofs.WellFormed.{text_formed}
use Rattle.argos_grammar.proofs.tree_laws.programs_are_well_formed.Goals as goal

pub returns : goal.returns
returns c = text_formed
