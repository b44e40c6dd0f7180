use Rattle.std.proofs.Common.{length}
use Rattle.verdict_search.proofs.BadPoints.{ChosenSoFar}
use Rattle.verdict_search.proofs.testing.flags_of.Given as goal

abbrev pub invariant-loop-bit : goal.invariant-loop-bit
invariant-loop-bit l = ChosenSoFar l.parts.labels.items l.read (length l.parts.consistent.items) l.bit-index l.flags.items
