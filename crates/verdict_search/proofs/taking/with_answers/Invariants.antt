use Rattle.verdict_search.proofs.TakingSteps.{WithSoFar}
use Rattle.verdict_search.proofs.taking.with_answers.Given as goal

abbrev pub invariant-loop-place : goal.invariant-loop-place
invariant-loop-place l = WithSoFar l.fn.arena l.arena l.fn.q.0 l.results l.answers l.place l.met.0
