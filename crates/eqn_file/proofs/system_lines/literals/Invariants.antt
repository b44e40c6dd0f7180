use Rattle.std.proofs.Common.{length}
use Rattle.eqn_file.specs.inner.Words.{words_left}
use Rattle.eqn_file.proofs.LineSteps.{LiteralsSoFar}
use Rattle.eqn_file.proofs.system_lines.literals.Given as goal

abbrev pub invariant-loop-literals : goal.invariant-loop-literals
invariant-loop-literals l = LiteralsSoFar l.bits l.initial.words l.words l.literals.items

abbrev pub decreases-loop-literals : goal.decreases-loop-literals
decreases-loop-literals l = length (words_left l.words.left)
