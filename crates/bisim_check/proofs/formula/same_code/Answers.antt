use Rattle.std.proofs.Common.{◌*◌, length, arith}
use Rattle.bisim_check.proofs.Atoms.{same_made}
use Rattle.eqn_dd.proofs.Denotations.{adds_one, adds_in_turn}
use Rattle.bisim_check.proofs.formula.same_code.Goals as goal

pub returns-clause-adds : goal.returns-clause-adds
returns-clause-adds c = adds_in_turn (3 * length c.args.left.now) 1 49 (omega (arith, c.requires.left.sized)) c.in_ok-other.ensures.adds (adds_one c.not.ensures.made)

pub returns-clause-denotes : goal.returns-clause-denotes
returns-clause-denotes c = same_made c.args.left.now c.args.right.now c.requires.left c.requires.right c.in_ok-other.ensures.denotes c.not.ensures.made
