use Rattle.verdict_search.proofs.AgreeSteps.{AgreeSoFar}
use Rattle.verdict_search.proofs.agreement.consistency.Given as goal

abbrev pub invariant-loop-place : goal.invariant-loop-place
invariant-loop-place l = AgreeSoFar l.fn.arena l.points l.bits l.labels.items l.place l.arena l.consistent.items
