use Rattle.verdict_search.proofs.PartSteps.{JoinedSoFar}
use Rattle.verdict_search.proofs.parting.join_all.Given as goal

abbrev pub invariant-loop-other : goal.invariant-loop-other
invariant-loop-other l = JoinedSoFar l.fn.labels l.labels l.place l.others l.other-index
