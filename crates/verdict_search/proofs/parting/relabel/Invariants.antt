use Rattle.verdict_search.proofs.PartSteps.{RelabelledSoFar}
use Rattle.verdict_search.proofs.parting.relabel.Given as goal

abbrev pub invariant-loop-place : goal.invariant-loop-place
invariant-loop-place l = RelabelledSoFar l.left l.kept l.fn.labels l.labels l.place
