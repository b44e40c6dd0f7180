use Rattle.std.proofs.Common.{◌≡◌}
use Rattle.std.specs.List.{filter, range_with_len}
use Rattle.argos_base.specs.SignalSets.{has}
use Rattle.argos_core.specs.Views.{numbers}
use Rattle.instant_check.proofs.reading.members.Given as goal

abbrev pub invariant-loop-number : goal.invariant-loop-number
invariant-loop-number l = numbers l.signals.items ≡ filter (has l.set) (range_with_len 0 l.number)
