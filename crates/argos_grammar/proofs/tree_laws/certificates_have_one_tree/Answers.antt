use Rattle.argos_grammar.proofs.OneTreeTexts.{one_cert_text}
use Rattle.argos_grammar.proofs.tree_laws.certificates_have_one_tree.Goals as goal

pub returns : goal.returns
returns c = one_cert_text
