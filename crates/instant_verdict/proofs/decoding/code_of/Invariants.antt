use Rattle.instant_verdict.proofs.DigitsRead.{IsCodeSoFar}
use Rattle.instant_verdict.proofs.decoding.code_of.Given as goal

abbrev pub invariant-loop-digit : goal.invariant-loop-digit
invariant-loop-digit l = IsCodeSoFar l.digits l.digit-index l.code
