-- What adding a name to a table does. Source: this project.
use Rattle.std.specs.Prelude.{◌≡◌, List, [], ◌∷◌, ◌++◌, Result, Ok, Err, Some, None, length}
use Rattle.argos_base.specs.Names.{Spelled, place_of}
use Rattle.argos_base.specs.declared.names.AddError.{AddError}
use Rattle.argos_base.specs.declared.names.AddError.TheVariants.{Duplicate, OutOfMemory}
use Rattle.argos_base.specs.declared.signals.SigId.{SigId}

-- a name that stands nowhere is appended and gets the last place; for one that stands its place is answered; an error leaves the names
abbrev pub Adds : List Spelled → Spelled → List Spelled → Result SigId AddError → Type 0
Adds old name new (Ok k) = (place_of old name ≡ None) × (k.0 ≡ length old) × (new ≡ old ++ name ∷ [])
Adds old name new (Err (Duplicate k)) = (place_of old name ≡ Some k.0) × (new ≡ old)
Adds old name new (Err OutOfMemory) = (place_of old name ≡ None) × (new ≡ old)
