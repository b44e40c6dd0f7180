use Rattle.std.proofs.Common.{◌≡◌, map, take}
use Rattle.argos_core.specs.Views.{configuration_of}
use Rattle.argos_core.proofs.InitialPlaces.{initial_place}
use Rattle.argos_core.proofs.configurations.+initial.Given as goal

-- the parts so far have their initial configurations
abbrev pub invariant-initial_of_parts-loop-part : goal.invariant-initial_of_parts-loop-part
invariant-initial_of_parts-loop-part l = map configuration_of l.configs.items ≡ map initial_place (take l.part-index l.parts)
