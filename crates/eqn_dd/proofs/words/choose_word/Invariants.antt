use Rattle.eqn_dd.proofs.WordSteps.{ChosenSoFar}
use Rattle.eqn_dd.proofs.words.choose_word.Given as goal

abbrev pub invariant-loop-place : goal.invariant-loop-place
invariant-loop-place l = ChosenSoFar l.fn.arena l.test.0 l.yes l.no l.place l.arena l.word.items
