use Rattle.eqn_dd.proofs.WordSteps.{NextSoFar}
use Rattle.eqn_dd.proofs.words.next_word.Given as goal

abbrev pub invariant-loop-place : goal.invariant-loop-place
invariant-loop-place l = NextSoFar l.fn.arena l.fn.word l.place l.arena l.next.items l.carry.0
