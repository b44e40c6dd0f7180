use Rattle.std.proofs.Common.{◌≡◌, ◌++◌, map, drop}
use Rattle.eqn_core.specs.Views.{line_of, choice_of}
use Rattle.weave_lines.specs.WovenLines.{next_lines}
use Rattle.weave_lines.proofs.joining.put_next.Given as goal

abbrev pub invariant-loop-k : goal.invariant-loop-k
invariant-loop-k l = map line_of l.lines.items ++ next_lines l.join (map choice_of (drop l.k l.picks)) (drop l.k l.words) ≡ map line_of l.initial.lines.items ++ next_lines l.join (map choice_of l.picks) l.words
