use Rattle.std.proofs.Common.{◌≡◌, ◌++◌, map, take}
use Rattle.eqn_core.specs.Views.{line_of}
use Rattle.weave_lines.specs.WovenLines.{placed, moved_line}
use Rattle.weave_lines.proofs.copying.put_copy.Given as goal

abbrev pub invariant-loop-line : goal.invariant-loop-line
invariant-loop-line l = map line_of l.lines.items ≡ map line_of l.initial.lines.items ++ map (moved_line (placed l.bits l.bit) (placed l.words l.word)) (map line_of (take l.line-index l.system.lines.items))
