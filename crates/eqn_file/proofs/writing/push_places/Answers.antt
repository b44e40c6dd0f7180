use Rattle.eqn_file.proofs.PieceTexts.{places_push}
use Rattle.eqn_file.proofs.writing.push_places.Goals as goal

pub loop-place-preserved : goal.loop-place-preserved
loop-place-preserved c = places_push c.args.word.now c.args.text.now.items c.loop-place.text.items c.push_keyed.new.text.items c.args.places.now c.loop-place.place-index c.loop-place-test.true c.loop-place.invariant (c.in_ok-push_keyed.ensures {u = tt})
