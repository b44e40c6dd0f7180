use Rattle.std.proofs.Common.{◌≡◌, ◌++◌, map, take}
use Rattle.line_format.specs.Numerals.{numeral}
use Rattle.eqn_file.specs.inner.Texts.{lines_text}
use Rattle.eqn_file.proofs.writing.push_codes.Given as goal

abbrev pub invariant-loop-code : goal.invariant-loop-code
invariant-loop-code l = l.text.items ≡ l.initial.text.items ++ lines_text (map numeral (take l.code-index l.init))
