use Rattle.std.proofs.Common.{length}
use Rattle.weave_lines.proofs.CopyLoops.{seen-room}
use Rattle.weave_lines.proofs.together.see.Goals as goal

pub bit_of-requires : goal.bit_of-requires
bit_of-requires c = seen-room (length c.args.bits.now) (length c.args.outputs.now) c.args.seen.now c.loop-signal.signal-index _ c.loop-signal-test.true c.requires
