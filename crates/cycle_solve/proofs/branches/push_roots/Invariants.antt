use Rattle.std.proofs.Common.{◌≡◌, ◌++◌, map, drop}
use Rattle.eqn_core.specs.Views.{line_of}
use Rattle.eqn_verdict.specs.Branches.{root_lines}
use Rattle.eqn_verdict.specs.FromArena.{root_ids}
use Rattle.cycle_solve.specs.inner.Building.{table_of}
use Rattle.cycle_solve.proofs.branches.push_roots.Given as goal

abbrev pub invariant-loop-root : goal.invariant-loop-root
invariant-loop-root l =
    map line_of l.lines.items ++ root_lines (root_ids (drop l.root-index l.roots)) (table_of l.bits)
    ≡ map line_of l.initial.lines.items ++ root_lines (root_ids l.roots) (table_of l.bits)
