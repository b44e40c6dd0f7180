use Rattle.argos_grammar.proofs.OneTreeTexts.{one_aspect_text}
use Rattle.argos_grammar.proofs.tree_laws.aspects_have_one_tree.Goals as goal

pub returns : goal.returns
returns c = one_aspect_text
