-- The unique table: chains through the nodes, one for each bucket.
use Rattle.std.specs.Prelude.{◌≡◌, ℕ, zero, suc, ◌+◌, ◌*◌, ◌%◌, ◌<◌, ◌↔◌, List, Some, if◌then◌else◌, nat_lt, slice_get}
use Rattle.dd_core.specs.declared.nodes.Node.{Node}
use Rattle.dd_core.specs.declared.nodes.NodeId.{NodeId}
use Rattle.dd_core.specs.Diagrams.{Nodes, node_at}

-- the bucket of a triple among so many
abbrev pub bucket_of : ℕ → Node → ℕ
bucket_of buckets n = ((n.variable * 31 + n.low.0) * 31 + n.high.0) % buckets

-- buckets doubled while they are fewer than the nodes, at most so many times
abbrev pub grow : ℕ → ℕ → ℕ → ℕ
grow zero nodes buckets = buckets
grow (suc times) nodes buckets = if nat_lt buckets nodes then grow times nodes (2 * buckets) else buckets

-- The number of buckets where so many nodes are held, constants included: 256, doubled while it is less, up to 16,777,216.
unfoldable pub bucket_count : ℕ → ℕ
bucket_count nodes = grow 16 nodes 256

-- f is held, and its triple falls into this bucket
abbrev pub FallsInto : Nodes → ℕ → ℕ → ℕ → Type 0
FallsInto nodes buckets bucket f = (n : Node) × (node_at nodes f ≡ Some n) × (bucket_of buckets n ≡ bucket)

-- the ids of exactly the nodes that fall into this bucket, each once, the greatest first
pub record IsChain (nodes : Nodes) (buckets bucket : ℕ) (ids : List NodeId) : Type 0 where
  pub members : (f : NodeId) → ((i : ℕ) × (slice_get ids i ≡ Some f)) ↔ FallsInto nodes buckets bucket f.0
  pub falling : (i j : ℕ) (f g : NodeId) → i < j → slice_get ids i ≡ Some f → slice_get ids j ≡ Some g → g.0 < f.0
