use Rattle.argos_grammar.proofs.PrintedTexts.{program_read_back}
use Rattle.argos_grammar.proofs.print_laws.programs_read_back.Goals as goal

pub returns : goal.returns
returns c = program_read_back
