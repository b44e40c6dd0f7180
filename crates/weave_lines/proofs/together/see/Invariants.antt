use Rattle.std.proofs.Common.{◌≡◌, map, take}
use Rattle.argos_aspects.specs.Views.{seen_of}
use Rattle.weave_lines.specs.WovenLines.{bit_seen}
use Rattle.weave_lines.proofs.together.see.Given as goal

abbrev pub invariant-loop-signal : goal.invariant-loop-signal
invariant-loop-signal l = l.found.items ≡ map (bit_seen l.bits l.outputs) (map seen_of (take l.signal-index l.seen))
