use Rattle.std.proofs.Common.{◌≡◌, [], replicate}
use Rattle.eqn_order.specs.inner.Graphs.{rows_of}
use Rattle.eqn_order.proofs.graph.empty_rows.Given as goal

abbrev pub invariant-loop : goal.invariant-loop
invariant-loop l = rows_of l.rows.items ≡ replicate l.counter []
