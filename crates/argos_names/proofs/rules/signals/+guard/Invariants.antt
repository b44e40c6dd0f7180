use Rattle.std.proofs.Common.{◌≡◌, drop}
use Rattle.argos_names.proofs.Breaches.{after_each}
use Rattle.argos_names.proofs.Signals.{guard_each}
use Rattle.argos_names.proofs.rules.signals.+guard.Given as goal

-- the least so far, and the guards that are left
abbrev pub invariant-read_guards-loop-guard : goal.invariant-read_guards-loop-guard
invariant-read_guards-loop-guard l = after_each (guard_each l.scope) l.least (drop l.guard-index l.guards) ≡ after_each (guard_each l.scope) l.initial.least l.guards
