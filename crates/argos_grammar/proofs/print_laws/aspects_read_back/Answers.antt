use Rattle.argos_grammar.proofs.PrintedTexts.{aspect_read_back}
use Rattle.argos_grammar.proofs.print_laws.aspects_read_back.Goals as goal

pub returns : goal.returns
returns c = aspect_read_back
