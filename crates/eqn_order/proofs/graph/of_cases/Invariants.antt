use Rattle.std.proofs.Common.{◌≡◌, ◌++◌, map, drop}
use Rattle.eqn_core.specs.Views.{case_of}
use Rattle.eqn_order.specs.inner.Sources.{lines_of_cases}
use Rattle.eqn_order.specs.inner.Views.{origins_from}
use Rattle.eqn_order.proofs.graph.of_cases.Given as goal

abbrev pub invariant-loop-case : goal.invariant-loop-case
invariant-loop-case l = l.row.items ++ lines_of_cases (origins_from l.sources) (map case_of (drop l.case-index l.cases)) ≡ lines_of_cases (origins_from l.sources) (map case_of l.cases)
