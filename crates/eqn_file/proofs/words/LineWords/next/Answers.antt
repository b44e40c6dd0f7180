use Rattle.eqn_file.proofs.WordSteps.{words-cut, words-last}
use Rattle.eqn_file.proofs.words.LineWords.next.Goals as goal

pub returns-in-Some-clause-word : goal.returns-in-Some-clause-word
returns-in-Some-clause-word c = words-cut c.args.self.now.left c.in_ok-left.left c.in-Some.word.now c.in-Some.rest.now (c.in_ok-left.was {u = tt}) (c.in-Some.ensures {u = tt})

pub returns-in-None-clause-word : goal.returns-in-None-clause-word
returns-in-None-clause-word c = words-last c.args.self.now.left c.in_ok-left.left (c.in_ok-left.was {u = tt}) (c.in-None.ensures {u = tt})
