use Rattle.std.proofs.Common.{◌+◌, ◌-◌, ◌^◌, length, arith}
use Rattle.weave_lines.proofs.CopyLoops.{outputs-room}
use Rattle.weave_lines.proofs.together.outputs_of.Goals as goal

pub place_all-requires : goal.place_all-requires
place_all-requires c = outputs-room c.args.system.now (length c.args.bits.now + (2 ^ 32 - c.args.bit)) c.deref.result.now c.deref.ensures.value c.requires.ordered (omega arith)
