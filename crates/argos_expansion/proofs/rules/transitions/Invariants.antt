use Rattle.std.proofs.Common.{◌≡◌, ◌++◌, drop, map}
use Rattle.argos_grammar.specs.Views.{trans_of}
use Rattle.argos_expansion.specs.Expansion.{transition_of}
use Rattle.argos_expansion.specs.inner.Shapes.{transition_shape}
use Rattle.argos_expansion.proofs.rules.transitions.Given as goal

-- the transitions so far, and those that are left
abbrev pub invariant-loop-form : goal.invariant-loop-form
invariant-loop-form l = map transition_shape l.transitions.items ++ map (transition_of l.scope l.names.names.items) (map trans_of (drop l.form-index l.forms)) ≡ map (transition_of l.scope l.names.names.items) (map trans_of l.forms)
