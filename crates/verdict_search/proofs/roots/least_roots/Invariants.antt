use Rattle.verdict_search.proofs.RootSteps.{RootsSoFar}
use Rattle.verdict_search.proofs.roots.least_roots.Given as goal

abbrev pub invariant-loop-place : goal.invariant-loop-place
invariant-loop-place l = RootsSoFar l.fn.arena l.points l.structural.0 l.parts l.place l.arena l.roots.items l.rests.items
