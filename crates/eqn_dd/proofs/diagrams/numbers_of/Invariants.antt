use Rattle.std.proofs.Common.{◌≡◌, ◌+◌, ◌++◌, map, drop}
use Rattle.eqn_core.specs.Equations.{bit_lines, word_lines}
use Rattle.eqn_core.specs.Views.{line_of}
use Rattle.eqn_dd.specs.inner.Tables.{numbers_from}
use Rattle.eqn_dd.proofs.diagrams.numbers_of.Given as goal

abbrev pub invariant-loop-line : goal.invariant-loop-line
invariant-loop-line l =
    (l.own.items ++ numbers_from l.bits l.words (map line_of (drop l.line-index l.lines))
    ≡ numbers_from l.inputs l.registers (map line_of l.lines))
    × (l.bits + bit_lines (map line_of (drop l.line-index l.lines)) ≡ l.inputs + bit_lines (map line_of l.lines))
    × (l.words + word_lines (map line_of (drop l.line-index l.lines)) ≡ l.registers + word_lines (map line_of l.lines))
    × (l.bits + l.words ≡ l.inputs + l.registers + l.line-index)
