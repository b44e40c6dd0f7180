use Rattle.std.proofs.Common.{length, arith, ◌∙◌}
use Rattle.weave_lines.proofs.CopyLoops.{seen-room}
use Rattle.weave_lines.proofs.RunLoops.{observe-more}
use Rattle.weave_lines.proofs.running.observe.Goals as goal

pub sees-requires : goal.sees-requires
sees-requires c = seen-room (length c.args.inputs.now) (length c.args.outputs.now) c.args.seen.now c.loop-k.k _ (omega arith) c.requires.exist

pub loop-k-preserved : goal.loop-k-preserved
loop-k-preserved c = c.set.ensures ∙ observe-more c.args.inputs.now c.args.outputs.now c.args.seen.now c.args.set.now c.loop-k.set c.loop-k.k _ c.sees.result (omega arith) c.requires.sized c.loop-k.invariant c.sees.ensures
