use Rattle.eqn_dd.proofs.WordSteps.{CodeSoFar}
use Rattle.eqn_dd.proofs.words.code_word.Given as goal

abbrev pub invariant-loop-place : goal.invariant-loop-place
invariant-loop-place l = CodeSoFar l.code l.place l.word.items
