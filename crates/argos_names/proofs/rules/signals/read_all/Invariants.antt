use Rattle.std.proofs.Common.{◌≡◌, drop}
use Rattle.argos_names.proofs.Breaches.{after_each}
use Rattle.argos_names.proofs.Signals.{read_each}
use Rattle.argos_names.proofs.rules.signals.read_all.Given as goal

-- the least so far, and the signals that are left
abbrev pub invariant-loop-signal : goal.invariant-loop-signal
invariant-loop-signal l = after_each (read_each l.scope) l.least (drop l.signal-index l.signals) ≡ after_each (read_each l.scope) l.initial.least l.signals
