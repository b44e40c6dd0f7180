use Rattle.std.proofs.Common.{◌≡◌, map, take}
use Rattle.eqn_core.specs.Views.{literal_of}
use Rattle.weave_lines.specs.WovenLines.{placed, moved_literal}
use Rattle.weave_lines.proofs.copying.move_literals.Given as goal

abbrev pub invariant-loop-literal : goal.invariant-loop-literal
invariant-loop-literal l = map literal_of l.moved.items ≡ map (moved_literal (placed l.bits l.bit)) (map literal_of (take l.literal-index l.literals))
