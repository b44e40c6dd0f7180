use Rattle.argos_grammar.proofs.WellFormed.{cert_text_formed}
use Rattle.argos_grammar.proofs.tree_laws.certificates_are_well_formed.Goals as goal

pub returns : goal.returns
returns c = cert_text_formed
