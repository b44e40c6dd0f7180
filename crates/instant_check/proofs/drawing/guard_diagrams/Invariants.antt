use Rattle.argos_core.specs.Views.{numbers}
use Rattle.instant_check.proofs.Drawn.{DrawnUpTo}
use Rattle.instant_check.proofs.drawing.guard_diagrams.Given as goal

abbrev pub invariant-loop-transition : goal.invariant-loop-transition
invariant-loop-transition l = DrawnUpTo l.fn.arena l.arena (numbers l.signals) l.transitions l.transition-index l.guards.items
