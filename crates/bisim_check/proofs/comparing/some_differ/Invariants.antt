use Rattle.bisim_check.proofs.Differing.{DifferSoFar}
use Rattle.bisim_check.proofs.comparing.some_differ.Given as goal

abbrev pub invariant-loop-left : goal.invariant-loop-left
invariant-loop-left l = DifferSoFar l.fn.arena l.lefts l.rights l.left l.arena l.differ.0

abbrev pub decreases-loop-left : goal.decreases-loop-left
decreases-loop-left l = l.left
