use Rattle.argos_top.proofs.SomeAnswer.{due_there}
use Rattle.argos_top.proofs.laws.some_due_answer.Goals as goal

pub returns : goal.returns
returns c = λ files words input solved. due_there files input words solved
