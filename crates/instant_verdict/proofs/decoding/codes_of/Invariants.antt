use Rattle.instant_verdict.proofs.DigitsRead.{AreCodesSoFar}
use Rattle.instant_verdict.proofs.decoding.codes_of.Given as goal

abbrev pub invariant-loop-width : goal.invariant-loop-width
invariant-loop-width l = AreCodesSoFar l.widths l.bits l.width-index l.codes.items l.rest
