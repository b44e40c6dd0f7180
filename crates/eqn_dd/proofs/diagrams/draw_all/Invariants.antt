use Rattle.eqn_core.specs.Views.{equations_from}
use Rattle.eqn_dd.specs.inner.Tables.{view_of}
use Rattle.eqn_dd.proofs.Drawing.{DrawnSoFar}
use Rattle.eqn_dd.proofs.diagrams.draw_all.Given as goal

abbrev pub invariant-loop-place : goal.invariant-loop-place
invariant-loop-place l =
    DrawnSoFar (equations_from l.system) l.plan.cyclic.items l.plan.order.items l.places l.initial.arena l.place-index
    l.arena (view_of l.table)
