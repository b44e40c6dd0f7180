use Rattle.argos_grammar.proofs.OneFault.{no_fault_in_text}
use Rattle.argos_grammar.proofs.fault_laws.programs_have_no_fault.Goals as goal

pub returns : goal.returns
returns c = no_fault_in_text
