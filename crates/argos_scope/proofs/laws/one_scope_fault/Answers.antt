use Rattle.argos_scope.proofs.OneMeaning.{one_fault}
use Rattle.argos_scope.proofs.laws.one_scope_fault.Goals as goal

pub returns : goal.returns
returns c = one_fault
