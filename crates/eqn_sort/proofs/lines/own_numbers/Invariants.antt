use Rattle.std.proofs.Common.{◌≡◌, ◌+◌, ◌++◌, length, map, drop}
use Rattle.eqn_core.specs.Views.{line_of}
use Rattle.eqn_sort.specs.inner.Own.{own_numbers}
use Rattle.eqn_sort.proofs.lines.own_numbers.Given as goal

abbrev pub invariant-loop-line : goal.invariant-loop-line
invariant-loop-line l =
    (l.numbers.items ++ own_numbers l.bits l.words (map line_of (drop l.line-index l.system.lines.items)) ≡ own_numbers l.system.inputs (length l.system.init.items) (map line_of l.system.lines.items))
    × (l.bits + l.words ≡ l.system.inputs + length l.system.init.items + l.line-index)
