use Rattle.std.proofs.Common.{◌≡◌, map}
use Rattle.argos_core.specs.Views.{numbers}
use Rattle.argos_expansion.specs.inner.Renaming.{signal_at}
use Rattle.argos_expansion.specs.inner.ShapeGrowth.{placed_signals}
use Rattle.argos_expansion.proofs.expander.placed_signals.Given as goal

-- so many signals are there
abbrev pub invariant-loop-k : goal.invariant-loop-k
invariant-loop-k l = numbers l.inner.items ≡ placed_signals l.k (map (signal_at (numbers l.signals)) (numbers l.places))
