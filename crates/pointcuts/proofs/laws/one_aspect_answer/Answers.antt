use Rattle.pointcuts.proofs.OneAnswer.{one_aspect, one_fault, not_both}
use Rattle.pointcuts.proofs.laws.one_aspect_answer.Goals as goal

pub returns-clause-aspect : goal.returns-clause-aspect
returns-clause-aspect c = λ t n A B distinct. one_aspect n distinct t A B

pub returns-clause-fault : goal.returns-clause-fault
returns-clause-fault c = one_fault

pub returns-clause-not_both : goal.returns-clause-not_both
returns-clause-not_both c = not_both
