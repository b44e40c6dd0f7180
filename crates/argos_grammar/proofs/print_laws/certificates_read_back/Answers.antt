use Rattle.argos_grammar.proofs.PrintedTexts.{cert_read_back}
use Rattle.argos_grammar.proofs.print_laws.certificates_read_back.Goals as goal

pub returns : goal.returns
returns c = cert_read_back
