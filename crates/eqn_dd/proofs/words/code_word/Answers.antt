use Rattle.eqn_dd.proofs.WordSteps.{code_more}
use Rattle.eqn_dd.proofs.words.code_word.Goals as goal

pub loop-place-preserved : goal.loop-place-preserved
loop-place-preserved c = rw c.in_ok-push.ensures.items (code_more c.args.code c.loop-place.place c.loop-place.word.items c.constant.result c.loop-place-test.true c.constant.ensures c.loop-place.invariant)
