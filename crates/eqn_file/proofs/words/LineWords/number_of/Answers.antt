use Rattle.eqn_file.proofs.WordSteps.{number-past}
use Rattle.eqn_file.proofs.words.LineWords.number_of.Goals as goal

pub returns-in-Some-2-clause-number : goal.returns-in-Some-2-clause-number
returns-in-Some-2-clause-number c = number-past c.args.digits.now c.args.end c.in-Some.number c.args.self.now.fits c.ranges.end.fits (c.in-Some.ensures {u = tt}) c.if-number-end.false
