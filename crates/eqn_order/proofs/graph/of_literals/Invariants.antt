use Rattle.std.proofs.Common.{◌≡◌, ◌++◌, map, drop}
use Rattle.eqn_core.specs.Views.{literal_of}
use Rattle.eqn_order.specs.inner.Sources.{lines_of_literals}
use Rattle.eqn_order.specs.inner.Views.{origins_from}
use Rattle.eqn_order.proofs.graph.of_literals.Given as goal

abbrev pub invariant-loop-literal : goal.invariant-loop-literal
invariant-loop-literal l = l.row.items ++ lines_of_literals (origins_from l.sources) (map literal_of (drop l.literal-index l.literals)) ≡ lines_of_literals (origins_from l.sources) (map literal_of l.literals)
