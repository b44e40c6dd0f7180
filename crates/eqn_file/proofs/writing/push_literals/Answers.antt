use Rattle.eqn_file.proofs.PieceTexts.{literals_push}
use Rattle.eqn_file.proofs.writing.push_literals.Goals as goal

pub loop-literal-preserved : goal.loop-literal-preserved
loop-literal-preserved c = literals_push c.args.text.now.items c.loop-literal.text.items c.push_literal.new.text.items c.args.literals.now c.loop-literal.literal-index _ c.loop-literal-test.true c.loop-literal.invariant (c.in_ok-push_literal.ensures {u = tt})
