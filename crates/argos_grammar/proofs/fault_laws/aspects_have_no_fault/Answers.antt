use Rattle.argos_grammar.proofs.OneFault.{no_fault_in_aspect}
use Rattle.argos_grammar.proofs.fault_laws.aspects_have_no_fault.Goals as goal

pub returns : goal.returns
returns c = no_fault_in_aspect
