use Rattle.verdict_search.proofs.PinnedNodes.{PointSoFar}
use Rattle.verdict_search.proofs.pinning.point.Given as goal

abbrev pub invariant-loop-left : goal.invariant-loop-left
invariant-loop-left l = PointSoFar l.fn.arena l.values l.left l.arena l.there.0

abbrev pub decreases-loop-left : goal.decreases-loop-left
decreases-loop-left l = l.left
