use Rattle.std.proofs.Common.{arith}
use Rattle.bisim_check.proofs.Differing.{alone_made}
use Rattle.eqn_dd.proofs.Denotations.{adds_one, adds_in_turn}
use Rattle.bisim_check.proofs.comparing.alone.Goals as goal

pub returns-clause-adds : goal.returns-clause-adds
returns-clause-adds c = adds_in_turn 1 1 2 (omega arith) (adds_one c.in_ok-other.ensures.made) (adds_one c.ite.ensures.made)

pub returns-clause-denotes : goal.returns-clause-denotes
returns-clause-denotes c = alone_made c.args.f.0 c.args.g.0 c.requires.held_f c.requires.held_g c.in_ok-other.ensures.made c.ite.ensures.made
