use Rattle.dd_ops.proofs.LeastWalk.{LeastSoFar}
use Rattle.dd_ops.proofs.reading.least.Given as goal

abbrev pub invariant-loop-k : goal.invariant-loop-k
invariant-loop-k l = LeastSoFar l.arena l.fn.f.0 l.k l.values.items l.at.0
