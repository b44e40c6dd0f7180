use Rattle.verdict_search.proofs.BadPoints.{NearSoFar}
use Rattle.verdict_search.proofs.testing.near.Given as goal

abbrev pub invariant-loop-part : goal.invariant-loop-part
invariant-loop-part l = NearSoFar l.fn.arena l.parts.consistent.items l.flags.items l.part l.arena l.met.0
