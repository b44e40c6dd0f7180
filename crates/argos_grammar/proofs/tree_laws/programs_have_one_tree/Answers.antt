use Rattle.argos_grammar.proofs.OneTreeTexts.{one_program_text}
use Rattle.argos_grammar.proofs.tree_laws.programs_have_one_tree.Goals as goal

pub returns : goal.returns
returns c = one_program_text
