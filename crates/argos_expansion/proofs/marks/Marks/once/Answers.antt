use Rattle.argos_expansion.specs.inner.Marked.{is_marked}
use Rattle.argos_expansion.proofs.OnceLists.{marked_step}
use Rattle.argos_expansion.proofs.marks.Marks.once.Goals as goal

pub loop-signal-preserved : goal.loop-signal-preserved
loop-signal-preserved c = marked_step c.args.signals.now (is_marked c.loop-signal.self.round c.loop-signal.self.rounds.items) (is_marked c.add.new.self.round c.add.new.self.rounds.items) c.loop-signal.outs.items c.add.new.outs.items c.loop-signal.signal-index _ c.loop-signal-test.true c.loop-signal.invariant.0 (c.in_ok-add.ensures {u = tt}).marks (c.in_ok-add.ensures {u = tt}).outs c.loop-signal.invariant.1
