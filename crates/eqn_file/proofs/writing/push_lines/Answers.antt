use Rattle.eqn_file.proofs.PieceTexts.{lines_push}
use Rattle.eqn_file.proofs.writing.push_lines.Goals as goal

pub loop-line-preserved : goal.loop-line-preserved
loop-line-preserved c = lines_push c.push_keyed.new.text.items c.loop-line.text.items c.push_line.new.text.items c.push.new.self.items c.args.lines.now c.loop-line.line-index c.line-item.result c.loop-line-test.true c.line-item.is c.loop-line.invariant (c.in_ok-push_line.ensures {u = tt}) (c.in_ok-push.ensures {u = tt}).items
