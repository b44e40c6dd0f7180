use Rattle.std.proofs.Common.{◌≡◌, ◌+◌, drop, map}
use Rattle.std.specs.Prelude.{sum_by}
use Rattle.argos_core.specs.Views.{numbers}
use Rattle.argos_expansion.specs.inner.Renaming.{transition_size}
use Rattle.argos_expansion.specs.inner.Shapes.{transition_shape}
use Rattle.argos_expansion.proofs.renaming.size_of_transitions.Given as goal

-- the size so far, and that of the transitions that are left
abbrev pub invariant-loop-form : goal.invariant-loop-form
invariant-loop-form l = l.size + sum_by (transition_size (numbers l.signals)) (map transition_shape (drop l.form-index l.forms)) ≡ sum_by (transition_size (numbers l.signals)) (map transition_shape l.forms)
