-- What the devices of a call tell before and after. Source: this project.
use Rattle.std.specs.Prelude.{ℕ, List, Option}
use Rattle.argos_base.specs.Shelves.{Files}
use Rattle.argos_load.specs.Calls.{Call}

-- the files of a shelf, what is left of a source, and what a sink holds
pub record Devices : Type 0 where
  pub shelf : Call (Option Files)
  pub source : Call (Option (List ℕ))
  pub sink : Call (Option (List ℕ))

abbrev pub devices : Call (Option Files) → Call (Option (List ℕ)) → Call (Option (List ℕ)) → Devices
devices shelf source sink = record { shelf = shelf; source = source; sink = sink }
