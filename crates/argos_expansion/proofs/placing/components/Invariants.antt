use Rattle.std.proofs.Common.{◌≡◌, [], ◌++◌, map, drop, take}
use Rattle.argos_grammar.specs.Views.{component_of}
use Rattle.argos_expansion.specs.inner.Placing.{placed_components}
use Rattle.argos_expansion.specs.inner.Shapes.{component_shape}
use Rattle.argos_expansion.proofs.placing.components.Given as goal

-- the components so far, and those that are left
abbrev pub invariant-loop-place : goal.invariant-loop-place
invariant-loop-place l = map component_shape l.placed.items ++ placed_components (take l.place l.names.names.items) (map component_of (drop l.place l.components)) ≡ placed_components [] (map component_of l.components)
