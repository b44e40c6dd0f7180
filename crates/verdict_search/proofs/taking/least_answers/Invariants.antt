use Rattle.verdict_search.proofs.TakingSteps.{LeastSoFar}
use Rattle.verdict_search.proofs.taking.least_answers.Given as goal

abbrev pub invariant-loop-g : goal.invariant-loop-g
invariant-loop-g l = LeastSoFar l.fn.arena l.arena l.fn.q.0 l.results l.g-index l.rest.0 l.answers.items
