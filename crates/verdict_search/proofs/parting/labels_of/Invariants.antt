use Rattle.verdict_search.proofs.PartSteps.{ClosedSoFar}
use Rattle.verdict_search.proofs.parting.labels_of.Given as goal

abbrev pub invariant-loop-place : goal.invariant-loop-place
invariant-loop-place l = ClosedSoFar l.arena.nodes l.points l.bits l.place l.labels.items
