use Rattle.bisim_check.proofs.DigitsRead.{code_more}
use Rattle.bisim_check.proofs.decoding.code_of.Goals as goal

pub loop-digit-preserved : goal.loop-digit-preserved
loop-digit-preserved c =
    code_more c.args.values.now c.args.first c.loop-digit.digit c.loop-digit.code (c.requires.exist c.loop-digit.digit c.loop-digit-test.true) c.loop-digit.invariant
