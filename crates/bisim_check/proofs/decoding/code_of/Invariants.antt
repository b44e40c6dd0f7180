use Rattle.bisim_check.proofs.DigitsRead.{IsCodeSoFar}
use Rattle.bisim_check.proofs.decoding.code_of.Given as goal

abbrev pub invariant-loop-digit : goal.invariant-loop-digit
invariant-loop-digit l = IsCodeSoFar l.values l.first l.digit l.code
