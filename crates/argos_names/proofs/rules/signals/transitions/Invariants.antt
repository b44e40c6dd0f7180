use Rattle.std.proofs.Common.{◌≡◌, drop}
use Rattle.argos_names.proofs.Breaches.{after_each}
use Rattle.argos_names.proofs.Signals.{trans_each}
use Rattle.argos_names.proofs.rules.signals.transitions.Given as goal

-- the least so far, and the transitions that are left
abbrev pub invariant-loop-trans : goal.invariant-loop-trans
invariant-loop-trans l = after_each (trans_each l.scope l.names.keys) l.least (drop l.trans-index l.transitions) ≡ after_each (trans_each l.scope l.names.keys) l.initial.least l.transitions
