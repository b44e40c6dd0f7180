use Rattle.std.proofs.Common.{◌≡◌, map, take}
use Rattle.eqn_core.specs.Views.{line_of}
use Rattle.eqn_core.proofs.copies.copy_lines.Given as goal

abbrev pub invariant-loop-line : goal.invariant-loop-line
invariant-loop-line l = map line_of l.copies.items ≡ map line_of (take l.line-index l.lines)
