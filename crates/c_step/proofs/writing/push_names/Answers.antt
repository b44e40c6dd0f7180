use Rattle.std.proofs.Common.{arith}
use Rattle.c_step.proofs.WrittenPieces.{name_pieces}
use Rattle.c_step.proofs.writing.push_names.Goals as goal

pub loop-k-preserved : goal.loop-k-preserved
loop-k-preserved c =
    name_pieces c.args.front.now c.args.names.now c.loop-k.k c.args.text.now.items c.loop-k.text.items c.extend_from_slice.new.self.items c.push_name.new.text.items c.extend_from_slice-in-loop-k.new.self.items (omega (arith, c.loop-k-test.true, c.len-k-end.ensures.count)) c.loop-k.invariant
    (c.in_ok-extend_from_slice.ensures {u = tt}).items (c.in_ok-push_name.ensures {u = tt}) (c.in_ok-extend_from_slice-2.ensures {u = tt}).items
