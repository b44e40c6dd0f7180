use Rattle.eqn_dd.proofs.Comparing.{ComparedSoFar}
use Rattle.eqn_dd.proofs.ranges.compare.Given as goal

abbrev pub invariant-loop-place : goal.invariant-loop-place
invariant-loop-place l = ComparedSoFar l.fn.arena l.word l.bound l.below l.above l.place l.arena l.answer.0
