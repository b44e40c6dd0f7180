use Rattle.std.proofs.Common.{◌≡◌, ◌++◌, map, drop}
use Rattle.argos_expansion.specs.inner.Placers.{known_names}
use Rattle.argos_expansion.specs.inner.Shapes.{process_shape, state_shape}
use Rattle.argos_expansion.proofs.PlacedLists.{placed_each, placed_one}
use Rattle.argos_expansion.proofs.placing.Placer.+process.Given as goal

-- the scope is as it was; the processes so far, and those that are left
abbrev pub invariant-block-loop-form : goal.invariant-block-loop-form
invariant-block-loop-form l = (l.scope ≡ l.initial.scope)
    × (map process_shape l.parts.items ++ map (placed_each (known_names l.self) l.initial.scope l.count) (drop l.form-index l.forms) ≡ map (placed_each (known_names l.self) l.initial.scope l.count) l.forms)

-- the same, and states
abbrev pub invariant-states-loop-form : goal.invariant-states-loop-form
invariant-states-loop-form l = (l.scope ≡ l.initial.scope)
    × (map state_shape l.states.items ++ map (placed_one (known_names l.self) l.initial.scope l.count l.names.names.items) (drop l.form-index l.forms) ≡ map (placed_one (known_names l.self) l.initial.scope l.count l.names.names.items) l.forms)
