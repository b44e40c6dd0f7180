use Rattle.std.proofs.Common.{◌≡◌, drop}
use Rattle.argos_names.proofs.rules.signals.leave_all.Given as goal

-- so many have left
abbrev pub invariant-loop-signal : goal.invariant-loop-signal
invariant-loop-signal l = l.scope ≡ drop l._signal-index l.initial.scope
