use Rattle.std.proofs.Common.{◌≡◌, [], ◌++◌, map, take, drop}
use Rattle.eqn_core.specs.inner.LineValues.{known}
use Rattle.eqn_core.specs.Solutions.{bit_of}
use Rattle.eqn_core.proofs.stepper.take_outputs.Given as goal

abbrev pub invariant-loop-k : goal.invariant-loop-k
invariant-loop-k l = l.output ≡ take l.k (map (bit_of (known l.bits [])) l.outs) ++ drop l.k l.initial.output
