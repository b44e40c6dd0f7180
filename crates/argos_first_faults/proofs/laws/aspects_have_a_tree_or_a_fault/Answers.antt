use Rattle.argos_first_faults.proofs.Texts.{aspects}
use Rattle.argos_first_faults.proofs.laws.aspects_have_a_tree_or_a_fault.Goals as goal

pub returns : goal.returns
returns c = aspects
