use Rattle.argos_expansion.proofs.OnceLists.{once_step}
use Rattle.argos_expansion.proofs.once.once.Goals as goal

pub loop-signal-preserved : goal.loop-signal-preserved
loop-signal-preserved c = once_step c.args.signals.now c.loop-signal.seen.keys c.add.new.seen.keys c.loop-signal.outs.items c.add.new.outs.items c.loop-signal.signal-index _ c.loop-signal-test.true c.loop-signal.invariant.0 (c.in_ok-add.ensures {u = tt}).seen (c.in_ok-add.ensures {u = tt}).outs c.loop-signal.invariant.1
