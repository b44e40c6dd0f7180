use Rattle.eqn_order.specs.inner.Graphs.{rows_of}
use Rattle.eqn_order.specs.inner.Searches.{IsReversedTo}
use Rattle.eqn_order.proofs.graph.reversed.Given as goal

abbrev pub invariant-loop-line : goal.invariant-loop-line
invariant-loop-line l = IsReversedTo (rows_of l.rows) l.line 0 (rows_of l.readers.items)

abbrev pub invariant-loop-target : goal.invariant-loop-target
invariant-loop-target l = IsReversedTo (rows_of l.rows) l.line l.target-index (rows_of l.readers.items)
