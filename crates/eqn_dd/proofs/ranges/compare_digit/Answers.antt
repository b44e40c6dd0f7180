use Rattle.eqn_dd.proofs.Denotations.{denotes_made}
use Rattle.eqn_dd.proofs.ranges.compare_digit.Goals as goal

pub returns-then-bound-clause-denotes : goal.returns-then-bound-clause-denotes
returns-then-bound-clause-denotes c = rw c.if-bound.true (denotes_made c.ite.ensures.made)

pub returns-else-bound-clause-denotes : goal.returns-else-bound-clause-denotes
returns-else-bound-clause-denotes c = rw c.if-bound.false (denotes_made c.ite-else-bound.ensures.made)
