use Rattle.std.proofs.Common.{◌≡◌, ◌++◌, map, drop}
use Rattle.eqn_core.specs.Views.{line_of}
use Rattle.eqn_build.specs.inner.BuilderViews.{any_line}
use Rattle.eqn_build.proofs.tables.any_lines.Given as goal

-- with the lists that are left come all lines
abbrev pub invariant-loop-list : goal.invariant-loop-list
invariant-loop-list l = map line_of l.lines.items ++ map any_line (drop l.list-index l.lists) ≡ map any_line l.lists
