-- How the chains of the table are linked: by decreasing ids, so that each walk along a chain ends.
use Rattle.std.specs.Prelude.{◌≡◌, ℕ, ◌+◌, ◌<◌, ◌≤◌, List, Some, map, length, slice_get, ◌⊎◌}
use Rattle.dd_core.specs.declared.nodes.Node.{Node}
use Rattle.dd_core.specs.declared.nodes.NodeId.{NodeId}
use Rattle.dd_core.specs.declared.table.Slot.{Slot}
use Rattle.dd_core.specs.Diagrams.{Nodes}
use Rattle.dd_core.specs.Chains.{bucket_of, bucket_count, FallsInto}
use Rattle.dd_core.specs.inner.Adding.{by_id}

abbrev pub slot_nodes : List Slot → List Node
slot_nodes slots = map (λ (s : Slot). s.node) slots

-- f is the last id before end that falls into the bucket, and 0 where there is none
pub record IsLast (nodes : Nodes) (buckets bucket end f : ℕ) : Type 0 where
  pub found : (f ≡ 0) ⊎ (FallsInto nodes buckets bucket f × (f < end))
  pub last : (g : ℕ) → FallsInto nodes buckets bucket g → g < end → g ≤ f

-- The nodes before the id end are linked: each chain begins at the last id of its bucket, and each link leads to the last id before in the
-- same bucket.
pub record IsLinkedTo (end : ℕ) (slots : List Slot) (firsts : List NodeId) : Type 0 where
  pub heads : (bucket : ℕ) (h : NodeId) → slice_get firsts bucket ≡ Some h → IsLast (by_id (slot_nodes slots)) (length firsts) bucket end h.0
  pub links : (k : ℕ) (s : Slot) → k + 2 < end → slice_get slots k ≡ Some s
      → IsLast (by_id (slot_nodes slots)) (length firsts) (bucket_of (length firsts) s.node) (k + 2) s.next.0

-- a table: each triple stands in the chain of its bucket, and in no other
pub record IsTable (slots : List Slot) (heads : List NodeId) : Type 0 where
  pub linked : IsLinkedTo (length slots + 2) slots heads
  pub buckets : length heads ≡ bucket_count (length slots + 2)
  pub few : length slots + 2 ≤ 16777216
