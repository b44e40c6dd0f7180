use Rattle.verdict_search.proofs.RootSteps.{BothSoFar}
use Rattle.verdict_search.proofs.roots.at_structural.Given as goal

abbrev pub invariant-loop-f : goal.invariant-loop-f
invariant-loop-f l = BothSoFar l.fn.arena l.structural.0 l.fs l.f-index l.arena l.rests.items
