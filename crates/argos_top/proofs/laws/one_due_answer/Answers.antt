use Rattle.argos_top.proofs.OneAnswer.{one_answer, one_text}
use Rattle.argos_top.proofs.laws.one_due_answer.Goals as goal

pub returns-clause-answer : goal.returns-clause-answer
returns-clause-answer c = one_answer

pub returns-clause-text : goal.returns-clause-text
returns-clause-text c = one_text
