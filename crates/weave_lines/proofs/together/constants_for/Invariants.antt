use Rattle.std.proofs.Common.{◌≡◌, take}
use Rattle.weave_lines.specs.WovenLines.{constants}
use Rattle.weave_lines.proofs.together.constants_for.Given as goal

abbrev pub invariant-loop-k : goal.invariant-loop-k
invariant-loop-k l = l.bits.items ≡ constants l.one (take l.k l.set)
