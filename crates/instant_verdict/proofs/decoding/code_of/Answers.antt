use Rattle.instant_verdict.proofs.DigitsRead.{code_more}
use Rattle.instant_verdict.proofs.decoding.code_of.Goals as goal

pub loop-digit-preserved : goal.loop-digit-preserved
loop-digit-preserved c = code_more c.args.digits.now c.loop-digit.digit-index c.loop-digit.code c.loop-digit-test.true c.loop-digit.invariant
