-- The components before the one whose names are looked up, as the code keeps them. Source: this project.
use Rattle.std.specs.Prelude.{ℕ, List, take, Option, Some, None, Vec}
use Rattle.std.specs.declared.alloc.Global.{Global}
use Rattle.argos_expansion.specs.inner.Shapes.{BodyShape, unrefined, refined, block_shape}
use Rattle.argos_expansion.specs.declared.placed.PlacedProcess.{PlacedProcess}
use Rattle.argos_expansion.specs.declared.placing.Placer.{Placer}

abbrev pub known_names : Placer → List (List ℕ)
known_names p = take p.place p.names.now.names.items

abbrev pub body_shape : Option (Vec PlacedProcess Global) → BodyShape
body_shape None = unrefined
body_shape (Some ps) = refined (block_shape ps.items)
