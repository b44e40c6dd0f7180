use Rattle.std.proofs.Common.{arith, refl}
use Rattle.eqn_dd.proofs.Comparing.{compared_none, compared_more, compared_all}
use Rattle.eqn_dd.proofs.Denotations.{adds_in_turn}
use Rattle.eqn_dd.proofs.ranges.compare.Goals as goal

pub loop-place-init : goal.loop-place-init
loop-place-init c = compared_none c.args.arena.now c.args.word.now c.args.bound c.args.below c.args.above c.variables.ensures.arena c.requires

pub returns-in_err-answer-clause-adds : goal.returns-in_err-answer-clause-adds
returns-in_err-answer-clause-adds c = adds_in_turn c.loop-place.place 1 16 (omega arith) c.loop-place.invariant.adds c.compare_digit.ensures.adds

pub loop-place-preserved : goal.loop-place-preserved
loop-place-preserved c = compared_more (record { 0 = 0 }) c.loop-place-test.true c.requires refl c.constant.ensures c.constant-in-loop-place.ensures c.loop-place.invariant c.compare_digit.ensures.adds c.in_ok-answer.ensures.denotes

pub returns-clause-denotes : goal.returns-clause-denotes
returns-clause-denotes c = compared_all c.ranges.bound.fits (omega arith) c.loop-place.invariant
