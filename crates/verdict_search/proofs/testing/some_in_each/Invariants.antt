use Rattle.verdict_search.proofs.BadPoints.{SomeSoFar}
use Rattle.verdict_search.proofs.testing.some_in_each.Given as goal

abbrev pub invariant-loop-f : goal.invariant-loop-f
invariant-loop-f l = SomeSoFar l.fn.arena l.points l.parts.consistent.items l.f-index l.arena l.each.0
