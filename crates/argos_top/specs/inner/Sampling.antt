-- How a sample ends.
use Rattle.std.specs.Prelude.{ℕ, List, Option}
use Rattle.argos_load.specs.Calls.{Call}
use Rattle.argos_load.specs.Said as said
use Rattle.argos_top.specs.Sample.{Sampled}
use Rattle.argos_top.specs.inner.Endings.{Pushes, NoMemory}
use Rattle.argos_top.specs.declared.status.Status.{Status}
use Rattle.argos_top.specs.declared.status.Status.TheVariants as status

pub data WroteSample (n : ℕ) (sink : Call (Option (List ℕ))) (r : Status) : Type 0 where
  unwritten : NoMemory sink r → WroteSample n sink r
  wrote : (bytes : List ℕ) → Sampled n (said.said said.Yes bytes) → Pushes bytes status.Yes sink r → WroteSample n sink r
