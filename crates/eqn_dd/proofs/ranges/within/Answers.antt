use Rattle.std.proofs.Common.{arith}
use Rattle.eqn_dd.proofs.Comparing.{within_made}
use Rattle.eqn_dd.proofs.Denotations.{adds_one, adds_in_turn}
use Rattle.eqn_dd.proofs.ranges.within.Goals as goal

pub returns-in_err-high_enough-clause-adds : goal.returns-in_err-high_enough-clause-adds
returns-in_err-high_enough-clause-adds c = adds_in_turn 16 16 40 (omega arith) c.in_ok-low_enough.ensures.adds c.compare-2.ensures.adds

pub returns-clause-adds : goal.returns-clause-adds
returns-clause-adds c = adds_in_turn 32 1 40 (omega arith) (adds_in_turn 16 16 32 (omega arith) c.in_ok-low_enough.ensures.adds c.in_ok-high_enough.ensures.adds) (adds_one c.and.ensures.made)

pub returns-clause-denotes : goal.returns-clause-denotes
returns-clause-denotes c = within_made c.args.lo c.args.hi c.requires c.in_ok-low_enough.ensures.adds c.in_ok-low_enough.ensures.denotes c.in_ok-high_enough.ensures.adds c.in_ok-high_enough.ensures.denotes c.and.ensures.made
