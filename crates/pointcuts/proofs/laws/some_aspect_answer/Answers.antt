use Rattle.pointcuts.proofs.SomeAnswer.{some_answer}
use Rattle.pointcuts.proofs.laws.some_aspect_answer.Goals as goal

pub returns : goal.returns
returns c = some_answer
