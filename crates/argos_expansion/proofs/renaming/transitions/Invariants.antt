use Rattle.std.proofs.Common.{◌≡◌, ◌++◌, drop, map}
use Rattle.argos_core.specs.Views as core
use Rattle.argos_core.specs.Views.{numbers}
use Rattle.argos_expansion.specs.inner.Renaming.{renamed_transition}
use Rattle.argos_expansion.specs.inner.Shapes.{transition_shape}
use Rattle.argos_expansion.proofs.renaming.transitions.Given as goal

-- the transitions so far, and those that are left
abbrev pub invariant-loop-form : goal.invariant-loop-form
invariant-loop-form l = map core.transition_of l.transitions.items ++ map (renamed_transition (numbers l.signals)) (map transition_shape (drop l.form-index l.forms)) ≡ map (renamed_transition (numbers l.signals)) (map transition_shape l.forms)
