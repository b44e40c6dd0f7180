use Rattle.bisim_verdict.proofs.Accepted.{accepted_are_equal}
use Rattle.bisim_verdict.proofs.Answering.{found_is_due}
use Rattle.bisim_verdict.proofs.OneAnswer.{one_is_due}
use Rattle.bisim_verdict.proofs.SomeAnswer.{some_is_due}
use Rattle.bisim_verdict.proofs.laws.found_is_due.Goals as goal

pub returns-clause-due : goal.returns-clause-due
returns-clause-due c = found_is_due

pub returns-clause-one : goal.returns-clause-one
returns-clause-one c = one_is_due

pub returns-clause-some : goal.returns-clause-some
returns-clause-some c = some_is_due

pub returns-clause-equal : goal.returns-clause-equal
returns-clause-equal c = accepted_are_equal
