use Rattle.std.proofs.Common.{◌≡◌, ◌++◌, drop, map}
use Rattle.argos_core.specs.Views.{numbers}
use Rattle.argos_expansion.specs.inner.Renaming.{signal_at}
use Rattle.argos_expansion.proofs.renaming.signals_at.Given as goal

-- the signals so far, and those of the places that are left
abbrev pub invariant-loop-place : goal.invariant-loop-place
invariant-loop-place l = numbers l.found.items ++ map (signal_at (numbers l.signals)) (numbers (drop l.place-index l.places)) ≡ map (signal_at (numbers l.signals)) (numbers l.places)
