-- The first name that isn't shared, in a list of names.
use Rattle.std.specs.Prelude.{List, [], ◌∷◌, Option, Some, None, Bool, if◌then◌else◌}
use Rattle.argos_base.specs.Names.{Spelled}

abbrev pub first_unshared : (Spelled → Bool) → List Spelled → Option Spelled
first_unshared shared [] = None
first_unshared shared (name ∷ names) = if shared name then first_unshared shared names else Some name
