use Rattle.std.proofs.Common.{◌+◌, ◌-◌, ◌^◌, length, arith}
use Rattle.weave_lines.proofs.CopyLoops.{next-room}
use Rattle.weave_lines.proofs.together.next_of.Goals as goal

pub place_all-requires : goal.place_all-requires
place_all-requires c = next-room c.args.system.now (length c.args.words.now + (2 ^ 32 - c.args.word)) c.deref.result.now c.deref.ensures.value c.requires.ordered (omega arith)
