use Rattle.std.proofs.Common.{◌≡◌, drop}
use Rattle.argos_core.proofs.Emitting.{with_all}
use Rattle.argos_core.proofs.signals.emit.Given as goal

-- what is still to be put in makes the set whole
abbrev pub invariant-loop-signal : goal.invariant-loop-signal
invariant-loop-signal l = with_all (drop l.signal-index l.signals) l.emitted ≡ with_all l.signals l.initial.emitted
