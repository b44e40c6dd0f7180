use Rattle.std.proofs.Common.{◌≡◌}
use Rattle.std.specs.Prelude.{length}
use Rattle.argos_sample.proofs.Instants.{EmitsSoFar}
use Rattle.argos_sample.proofs.reacting.react.Given as goal

abbrev pub invariant-loop-instant : goal.invariant-loop-instant
invariant-loop-instant l = EmitsSoFar l.fn.ordered l._instant l.emitted l.stepper.memory × (l.stepper.equations ≡ l.fn.ordered) × (length l.output ≡ 1)
