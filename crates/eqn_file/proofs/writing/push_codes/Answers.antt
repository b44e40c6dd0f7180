use Rattle.eqn_file.proofs.PieceTexts.{codes_push}
use Rattle.eqn_file.proofs.writing.push_codes.Goals as goal

pub loop-code-preserved : goal.loop-code-preserved
loop-code-preserved c = codes_push c.push_keyed.new.text.items c.loop-code.text.items c.push_number.new.text.items c.push.new.self.items c.args.init.now c.loop-code.code-index c.loop-code-test.true c.loop-code.invariant (c.in_ok-push_number.ensures {u = tt}) (c.in_ok-push.ensures {u = tt}).items
