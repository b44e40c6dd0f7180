use Rattle.std.proofs.Common.{◌≡◌, ◌-◌, true, length, drop}
use Rattle.argos_base.specs.SignalSets.{lists}
use Rattle.argos_core.specs.Views.{numbers}
use Rattle.instant_check.proofs.guards.place_of.Given as goal

abbrev pub invariant-loop-signal : goal.invariant-loop-signal
invariant-loop-signal l = lists (numbers (drop l.place l.signals)) l.signal.0 ≡ true

abbrev pub decreases-loop-signal : goal.decreases-loop-signal
decreases-loop-signal l = length l.signals - l.place
