use Rattle.verdict_search.proofs.BadPoints.{DifferSoFar}
use Rattle.verdict_search.proofs.testing.none_or_differing.Given as goal

abbrev pub invariant-loop-result : goal.invariant-loop-result
invariant-loop-result l = DifferSoFar l.fn.arena l.arena l.points l.parts.consistent.items l.results l.result-index l.odd.0
