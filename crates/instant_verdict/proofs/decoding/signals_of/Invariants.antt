use Rattle.instant_verdict.proofs.DigitsRead.{IsSetSoFar}
use Rattle.instant_verdict.proofs.decoding.signals_of.Given as goal

abbrev pub invariant-loop-number : goal.invariant-loop-number
invariant-loop-number l = IsSetSoFar l.values l.number l.set
