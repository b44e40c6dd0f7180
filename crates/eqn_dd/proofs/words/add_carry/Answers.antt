use Rattle.std.proofs.Common.{arith}
use Rattle.eqn_dd.proofs.Denotations.{adds_one, adds_in_turn}
use Rattle.eqn_dd.proofs.WordSteps.{sum_made, over_made}
use Rattle.eqn_dd.proofs.words.add_carry.Goals as goal

pub returns-in_err-sum-clause-adds : goal.returns-in_err-sum-clause-adds
returns-in_err-sum-clause-adds c = adds_in_turn 1 1 3 (omega arith) (adds_one c.in_ok-flipped.ensures.made) (adds_one c.ite.ensures.made)

pub and-requires-clause-held_f : goal.and-requires-clause-held_f
and-requires-clause-held_f c = c.in_ok-sum.ensures.made.keeps.held c.args.carry.0 (c.in_ok-flipped.ensures.made.keeps.held c.args.carry.0 c.requires.carry)

pub and-requires-clause-held_g : goal.and-requires-clause-held_g
and-requires-clause-held_g c = c.in_ok-sum.ensures.made.keeps.held c.args.digit.0 (c.in_ok-flipped.ensures.made.keeps.held c.args.digit.0 c.requires.digit)

pub returns-in_err-over-clause-adds : goal.returns-in_err-over-clause-adds
returns-in_err-over-clause-adds c = adds_in_turn 2 1 3 (omega arith) (adds_in_turn 1 1 2 (omega arith) (adds_one c.in_ok-flipped.ensures.made) (adds_one c.in_ok-sum.ensures.made)) (adds_one c.and.ensures.made)

pub returns-clause-adds : goal.returns-clause-adds
returns-clause-adds c = adds_in_turn 2 1 3 (omega arith) (adds_in_turn 1 1 2 (omega arith) (adds_one c.in_ok-flipped.ensures.made) (adds_one c.in_ok-sum.ensures.made)) (adds_one c.in_ok-over.ensures.made)

pub returns-clause-sum : goal.returns-clause-sum
returns-clause-sum c = sum_made c.requires.digit c.requires.carry c.in_ok-flipped.ensures.made c.in_ok-sum.ensures.made c.in_ok-over.ensures.made.keeps

pub returns-clause-over : goal.returns-clause-over
returns-clause-over c = over_made c.requires.digit c.requires.carry c.in_ok-flipped.ensures.made c.in_ok-sum.ensures.made c.in_ok-over.ensures.made
