use Rattle.std.proofs.Common.{◌≡◌, ◌+◌, drop}
use Rattle.argos_core.specs.Views.{numbers}
use Rattle.argos_expansion.specs.inner.Renaming.{states_size}
use Rattle.argos_expansion.specs.inner.Shapes.{states_shape}
use Rattle.argos_expansion.proofs.renaming.size_in.Given as goal

-- the size so far, and that of the states that are left
abbrev pub invariant-loop-state : goal.invariant-loop-state
invariant-loop-state l = l.size + states_size (numbers l.signals) (states_shape (drop l.state-index l.states)) ≡ states_size (numbers l.signals) (states_shape l.states)
