use Rattle.argos_first_faults.proofs.Texts.{certificates}
use Rattle.argos_first_faults.proofs.laws.certificates_have_a_tree_or_a_fault.Goals as goal

pub returns : goal.returns
returns c = certificates
