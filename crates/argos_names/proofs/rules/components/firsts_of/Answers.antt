use Rattle.argos_names.proofs.Components.{first_places}
use Rattle.argos_names.proofs.rules.components.firsts_of.Goals as goal

pub loop-k-preserved : goal.loop-k-preserved
loop-k-preserved c = first_places c.args.all.now c.loop-k.k c.index-all-k.result c.loop-k.firsts c.note.new.firsts c.loop-k-test.true c.index-all-k.is c.loop-k.invariant c.in_ok-note.ensures
