use Rattle.eqn_file.proofs.WordSteps.{words-left}
use Rattle.eqn_file.proofs.words.LineWords.end.Goals as goal

pub returns-in-Some-clause-end : goal.returns-in-Some-clause-end
returns-in-Some-clause-end c = words-left c.args.self.now.left c.in-Some.field-0 c.in-Some.is
