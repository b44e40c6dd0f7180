use Rattle.argos_scope.proofs.OneMeaning.{means_once, means_no_fault}
use Rattle.argos_scope.proofs.laws.one_meaning.Goals as goal

pub returns-clause-once : goal.returns-clause-once
returns-clause-once c = means_once

pub returns-clause-no_fault : goal.returns-clause-no_fault
returns-clause-no_fault c = means_no_fault
