use Rattle.argos_grammar.proofs.AcceptsCertificates.{accepts_cert}
use Rattle.argos_grammar.proofs.machine_laws.certificates_are_taken.Goals as goal

pub returns : goal.returns
returns c = accepts_cert
