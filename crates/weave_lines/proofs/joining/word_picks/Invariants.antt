use Rattle.std.proofs.Common.{◌≡◌, map, take}
use Rattle.eqn_core.specs.Equations.{word}
use Rattle.eqn_core.specs.Views.{choice_of}
use Rattle.weave_lines.proofs.joining.word_picks.Given as goal

abbrev pub invariant-loop-number : goal.invariant-loop-number
invariant-loop-number l = map choice_of l.picks.items ≡ map word (take l.number-index l.words)
