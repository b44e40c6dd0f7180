use Rattle.std.proofs.Common.{◌≡◌, ◌++◌, map, drop}
use Rattle.argos_grammar.specs.Views.{component_of}
use Rattle.argos_expansion.proofs.placing.component_names.Given as goal

-- the names so far, and those of the components that are left
abbrev pub invariant-loop-component : goal.invariant-loop-component
invariant-loop-component l = l.names.items ++ map (λ c. c.name.name) (map component_of (drop l.component-index l.components)) ≡ map (λ c. c.name.name) (map component_of l.components)
