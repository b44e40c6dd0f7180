-- How a comparison ends.
use Rattle.std.specs.Prelude.{ℕ, List, Option}
use Rattle.argos_load.specs.Calls.{Call}
use Rattle.argos_load.specs.EquivFiles.{Comparison}
use Rattle.argos_load.specs.Giving.{IsSpent}
use Rattle.argos_load.specs.Said.{Said}
use Rattle.argos_top.specs.Equivalence.{Compared, IsComparisonStopped}
use Rattle.argos_top.specs.inner.Endings.{status_of, Pushes, NoMemory}
use Rattle.argos_top.specs.declared.status.Status.{Status}
use Rattle.argos_top.specs.declared.status.Status.TheVariants as status
use Rattle.dd_core.specs.Arenas.{ArenaView}

pub data Compares (x : Comparison) (nodes : ℕ) (sink : Call (Option (List ℕ))) (r : Status) : Type 0 where
  untold : NoMemory sink r → Compares x nodes sink r
  told : (s : Said) → Compared x s → Pushes s.bytes (status_of s.answer) sink r → Compares x nodes sink r
  stopped : (arena : ArenaView) (bs : List ℕ) → IsSpent nodes bs arena → ∥ IsComparisonStopped x nodes arena ∥₁ → Pushes bs (status.Budget arena) sink r → Compares x nodes sink r
