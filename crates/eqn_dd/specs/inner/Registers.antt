-- The words of registers.
use Rattle.std.specs.Prelude.{◌≡◌, ℕ, ◌<◌, List, [], length, slice_index_or}
use Rattle.argos_base.specs.SignalSets.{SignalSet}
use Rattle.dd_core.specs.declared.nodes.NodeId.{NodeId}
use Rattle.dd_core.specs.Arenas.{ArenaView}
use Rattle.eqn_dd.specs.Denoting.{DenotesWord}

-- each word is the code at its place in a memory, which depends on the variables
pub record DenoteMemory (arena : ArenaView) (words : List (List NodeId)) (memory : SignalSet → List ℕ) (count : ℕ) : Type 0 where
  pub sized : length words ≡ count
  pub each : (k : ℕ) → k < count → DenotesWord arena (slice_index_or words k []) (λ x. slice_index_or (memory x) k 0)
