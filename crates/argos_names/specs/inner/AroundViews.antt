-- The components around a process, as the code keeps them.
use Rattle.std.specs.Prelude.{map, take}
use Rattle.argos_grammar.specs.Views.{component_of}
use Rattle.argos_names.specs.Scope as scope
use Rattle.argos_names.specs.declared.rules.around.Around.{Around}

abbrev pub around_of : Around → scope.Around
around_of a = record { earlier = map component_of (take a.place a.components.now.all.now); names = map (λ c. c.name.name) (map component_of a.components.now.all.now) }
