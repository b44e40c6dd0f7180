use Rattle.eqn_dd.proofs.Beginning.{GivenSoFar}
use Rattle.eqn_dd.proofs.table.begin_given.Given as goal

abbrev pub invariant-loop-left : goal.invariant-loop-left
invariant-loop-left l = GivenSoFar l.fn.arena l.cyclic l.variables l.fn.count l.left l.arena l.given.items

abbrev pub decreases-loop-left : goal.decreases-loop-left
decreases-loop-left l = l.left
