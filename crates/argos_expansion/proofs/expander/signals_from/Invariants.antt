use Rattle.std.proofs.Common.{◌≡◌}
use Rattle.std.specs.List.{range_with_len}
use Rattle.argos_core.specs.Views.{numbers}
use Rattle.argos_expansion.proofs.expander.signals_from.Given as goal

abbrev pub invariant-loop-k : goal.invariant-loop-k
invariant-loop-k l = numbers l.signals.items ≡ range_with_len l.first l.k
