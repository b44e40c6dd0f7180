use Rattle.std.proofs.Common.{length}
use Rattle.eqn_file.specs.inner.Words.{words_left}
use Rattle.eqn_file.proofs.LineSteps.{CasesSoFar}
use Rattle.eqn_file.proofs.system_lines.choose.Given as goal

abbrev pub invariant-loop-cases : goal.invariant-loop-cases
invariant-loop-cases l = CasesSoFar l.bounds.bits l.bounds.words l.initial.words l.words l.cases.items

abbrev pub decreases-loop-cases : goal.decreases-loop-cases
decreases-loop-cases l = length (words_left l.words.left)
