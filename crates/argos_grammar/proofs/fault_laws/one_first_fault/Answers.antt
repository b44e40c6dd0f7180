use Rattle.argos_grammar.proofs.OneFault.{first_fault_once}
use Rattle.argos_grammar.proofs.fault_laws.one_first_fault.Goals as goal

pub returns : goal.returns
returns c = first_fault_once
