use Rattle.std.proofs.Common.{◌≡◌, map, take}
use Rattle.eqn_core.specs.Views.{case_of}
use Rattle.weave_lines.specs.WovenLines.{placed, moved_case}
use Rattle.weave_lines.proofs.copying.move_cases.Given as goal

abbrev pub invariant-loop-case : goal.invariant-loop-case
invariant-loop-case l = map case_of l.moved.items ≡ map (moved_case (placed l.bits l.bit) (placed l.words l.word)) (map case_of (take l.case-index l.cases))
