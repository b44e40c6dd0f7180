use Rattle.std.proofs.Common.{◌≡◌, ◌++◌, take, drop}
use Rattle.eqn_core.proofs.stepper.put_inputs.Given as goal

abbrev pub invariant-loop-k : goal.invariant-loop-k
invariant-loop-k l = l.bits ≡ take l.k l.input ++ drop l.k l.initial.bits
