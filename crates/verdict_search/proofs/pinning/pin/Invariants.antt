use Rattle.verdict_search.proofs.PinnedNodes.{PinnedSoFar}
use Rattle.verdict_search.proofs.pinning.pin.Given as goal

abbrev pub invariant-loop-f : goal.invariant-loop-f
invariant-loop-f l = PinnedSoFar l.fn.arena l.values l.fs l.f-index l.arena l.here.0
