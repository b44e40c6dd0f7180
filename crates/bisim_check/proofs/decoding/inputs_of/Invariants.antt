use Rattle.eqn_dd.specs.Placed.{inputs_at}
use Rattle.bisim_check.proofs.DigitsRead.{IsSetSoFar}
use Rattle.bisim_check.proofs.decoding.inputs_of.Given as goal

abbrev pub invariant-loop-number : goal.invariant-loop-number
invariant-loop-number l = IsSetSoFar (inputs_at l.places l.values) l.number l.set
