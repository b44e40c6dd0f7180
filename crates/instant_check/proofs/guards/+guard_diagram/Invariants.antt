use Rattle.argos_core.specs.Guards.{every, some}
use Rattle.argos_core.specs.Views.{numbers}
use Rattle.instant_check.proofs.TestDiagrams.{SoFar}
use Rattle.instant_check.proofs.guards.+guard_diagram.Given as goal

abbrev pub invariant-all_diagram-loop-left : goal.invariant-all_diagram-loop-left
invariant-all_diagram-loop-left l = SoFar every l.fn.arena (numbers l.signals) l.operands l.left l.arena l.met.0

abbrev pub decreases-all_diagram-loop-left : goal.decreases-all_diagram-loop-left
decreases-all_diagram-loop-left l = l.left

abbrev pub invariant-any_diagram-loop-left : goal.invariant-any_diagram-loop-left
invariant-any_diagram-loop-left l = SoFar some l.fn.arena (numbers l.signals) l.operands l.left l.arena l.met.0

abbrev pub decreases-any_diagram-loop-left : goal.decreases-any_diagram-loop-left
decreases-any_diagram-loop-left l = l.left
