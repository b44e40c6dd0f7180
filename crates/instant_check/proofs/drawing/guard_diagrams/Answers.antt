use Rattle.std.proofs.Common.{◌+◌, subst, sym, List}
use Rattle.argos_core.specs.Views.{numbers}
use Rattle.dd_core.specs.declared.nodes.NodeId.{NodeId}
use Rattle.instant_check.proofs.Drawn.{DrawnUpTo, drawn_fails, drawn_more, transition_reads}
use Rattle.instant_check.proofs.TestDiagrams.{sized_numbers}
use Rattle.instant_check.proofs.drawing.guard_diagrams.Goals as goal

pub guard_diagram-requires-clause-read : goal.guard_diagram-requires-clause-read
guard_diagram-requires-clause-read c = transition_reads c.args.transitions.now c.loop-transition.transition-index c.transition-item.result (numbers c.args.signals.now) c.loop-transition-test.true c.transition-item.is c.requires.read

pub returns-in_err-guard_diagram-clause-adds : goal.returns-in_err-guard_diagram-clause-adds
returns-in_err-guard_diagram-clause-adds c = drawn_fails c.args.transitions.now c.loop-transition.transition-index c.transition-item.result c.loop-transition.invariant c.loop-transition-test.true c.transition-item.is c.guard_diagram.ensures.adds

pub returns-in_err-push-clause-adds : goal.returns-in_err-push-clause-adds
returns-in_err-push-clause-adds c = drawn_fails c.args.transitions.now c.loop-transition.transition-index c.transition-item.result c.loop-transition.invariant c.loop-transition-test.true c.transition-item.is c.guard_diagram.ensures.adds

pub loop-transition-preserved : goal.loop-transition-preserved
loop-transition-preserved c =
    subst (λ (nodes : List NodeId). DrawnUpTo c.args.arena.now c.guard_diagram.new.arena (numbers c.args.signals.now) c.args.transitions.now (c.loop-transition.transition-index + 1) nodes) (sym c.in_ok-push.ensures.items)
    (drawn_more c.args.transitions.now c.loop-transition.transition-index c.transition-item.result c.in_ok-guard_diagram.field-0 (sized_numbers c.args.signals.now _ c.requires.sized) c.loop-transition.invariant c.loop-transition-test.true c.transition-item.is c.guard_diagram.ensures.adds c.in_ok-guard_diagram.ensures.denotes)
