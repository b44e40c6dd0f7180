use Rattle.std.proofs.Common.{◌≡◌, ◌++◌, map, drop}
use Rattle.eqn_core.specs.Views.{line_of}
use Rattle.weave_lines.specs.WovenLines.{output_lines}
use Rattle.weave_lines.proofs.joining.put_outputs.Given as goal

abbrev pub invariant-loop-k : goal.invariant-loop-k
invariant-loop-k l = map line_of l.lines.items ++ output_lines l.join (drop l.k l.outs) (drop l.k l.bits) ≡ map line_of l.initial.lines.items ++ output_lines l.join l.outs l.bits
