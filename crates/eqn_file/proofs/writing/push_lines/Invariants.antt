use Rattle.std.proofs.Common.{◌≡◌, ◌++◌, map, take}
use Rattle.eqn_file.specs.inner.Texts.{lines_text, line_text}
use Rattle.eqn_file.proofs.writing.push_lines.Given as goal

abbrev pub invariant-loop-line : goal.invariant-loop-line
invariant-loop-line l = l.text.items ≡ l.initial.text.items ++ lines_text (map line_text (take l.line-index l.lines))
