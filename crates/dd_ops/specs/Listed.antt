-- The nodes under a node, each once and children before parents.
use Rattle.std.specs.Prelude.{◌≡◌, ℕ, ◌<◌, ◌↔◌, List, Some, Bool, if◌then◌else◌, IsSome, slice_get}
use Rattle.dd_core.specs.declared.nodes.Node.{Node}
use Rattle.dd_core.specs.declared.nodes.NodeId.{NodeId}
use Rattle.dd_core.specs.Diagrams.{Nodes, node_at}

-- g is f, or stands under a child of f
pub data IsUnder (nodes : Nodes) : NodeId → NodeId → Type 0 where
  itself : {f : NodeId} → IsUnder nodes f f
  below : {f g : NodeId} (b : Bool) (n : Node) → node_at nodes f.0 ≡ Some n → IsUnder nodes (if b then n.high else n.low) g → IsUnder nodes f g

-- g stands in the list
abbrev pub IsListed : List NodeId → NodeId → Type 0
IsListed ids g = (i : ℕ) × (slice_get ids i ≡ Some g)

-- each id is that of a node, stands once, and has its children before it
pub record IsListing (nodes : Nodes) (ids : List NodeId) : Type 0 where
  pub node : (g : NodeId) → IsListed ids g → IsSome (node_at nodes g.0)
  pub once : (i j : ℕ) (g : NodeId) → slice_get ids i ≡ Some g → slice_get ids j ≡ Some g → i ≡ j
  pub children_first : (i : ℕ) (g : NodeId) (n : Node) (b : Bool) → slice_get ids i ≡ Some g → node_at nodes g.0 ≡ Some n
      → let child = (if b then n.high else n.low) in IsSome (node_at nodes child.0) → (j : ℕ) × (j < i) × (slice_get ids j ≡ Some child)

-- a listing of exactly the nodes under f
pub record ListsUnder (nodes : Nodes) (f : NodeId) (ids : List NodeId) : Type 0 where
  pub listing : IsListing nodes ids
  pub under : (g : NodeId) → IsListed ids g ↔ (IsUnder nodes f g × IsSome (node_at nodes g.0))
