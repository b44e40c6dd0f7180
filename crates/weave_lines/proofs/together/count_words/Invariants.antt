use Rattle.std.proofs.Common.{◌≡◌, ◌+◌, ◌≤◌, map, drop}
use Rattle.eqn_core.specs.Equations.{word_lines}
use Rattle.eqn_core.specs.Views.{line_of}
use Rattle.weave_lines.proofs.together.count_words.Given as goal

abbrev pub invariant-loop-line : goal.invariant-loop-line
invariant-loop-line l = (l.words + word_lines (map line_of (drop l.line-index l.lines)) ≡ word_lines (map line_of l.lines)) × (l.words ≤ l.line-index)
