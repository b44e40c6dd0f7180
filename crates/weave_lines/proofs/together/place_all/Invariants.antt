use Rattle.std.proofs.Common.{◌≡◌, map, take}
use Rattle.weave_lines.specs.WovenLines.{placed}
use Rattle.weave_lines.proofs.together.place_all.Given as goal

abbrev pub invariant-loop-number : goal.invariant-loop-number
invariant-loop-number l = l.placed.items ≡ map (placed l.given l.first) (take l.number-index l.numbers)
