use Rattle.argos_expansion.proofs.FirstPlaces.{first_places_on}
use Rattle.argos_expansion.proofs.first_names.firsts_of.Goals as goal

pub loop-k-preserved : goal.loop-k-preserved
loop-k-preserved c = first_places_on c.args.names.now c.loop-k.k c.index-names-k.result c.loop-k.firsts c.note.new.firsts c.loop-k-test.true c.index-names-k.is c.loop-k.invariant c.in_ok-note.ensures
