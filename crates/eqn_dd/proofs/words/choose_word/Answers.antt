use Rattle.std.proofs.Common.{refl, arith}
use Rattle.eqn_dd.proofs.Denotations.{adds_one, adds_in_turn}
use Rattle.eqn_dd.proofs.WordSteps.{chosen_more, chosen_all}
use Rattle.eqn_dd.proofs.words.choose_word.Goals as goal

pub returns-in_err-ite-clause-adds : goal.returns-in_err-ite-clause-adds
returns-in_err-ite-clause-adds c = adds_in_turn c.loop-place.place 1 16 (omega arith) c.loop-place.invariant.adds (adds_one c.ite.ensures.made)

pub returns-in_err-push-clause-adds : goal.returns-in_err-push-clause-adds
returns-in_err-push-clause-adds c = adds_in_turn c.loop-place.place 1 16 (omega arith) c.loop-place.invariant.adds (adds_one c.ite.ensures.made)

pub loop-place-preserved : goal.loop-place-preserved
loop-place-preserved c =
    rw c.in_ok-push.ensures.items
    (chosen_more (record { 0 = 0 }) c.loop-place-test.true c.requires.test c.requires.yes c.requires.no refl refl c.loop-place.invariant c.in_ok-ite.ensures.made)

pub returns-clause-denotes : goal.returns-clause-denotes
returns-clause-denotes c = chosen_all (omega arith) c.requires.yes c.requires.no c.loop-place.invariant
