use Rattle.std.proofs.Common.{arith}
use Rattle.eqn_file.proofs.PieceTexts.{names_push}
use Rattle.eqn_file.proofs.writing.push_names.Goals as goal

pub loop-k-preserved : goal.loop-k-preserved
loop-k-preserved c = names_push c.push_keyed.new.text.items c.loop-k.text.items c.push_name.new.text.items c.args.names.now c.loop-k.k (omega (arith, c.loop-k-test.true, c.len.ensures.count)) c.loop-k.invariant (c.in_ok-push_name.ensures {u = tt})
