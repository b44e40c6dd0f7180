-- The list that `nodes` makes, with the set of its ids.
use Rattle.std.specs.Prelude.{◌≡◌, ℕ, ◌↔◌, Bool, true, nat_eq, Some, IsSome, slice_get, ◌⊎◌}
use Rattle.std.specs.HashSet.{contains}
use Rattle.dd_core.specs.declared.nodes.NodeId.{NodeId}
use Rattle.dd_core.specs.Diagrams.{Nodes, node_at}
use Rattle.dd_ops.specs.declared.listing.Listing.{Listing}
use Rattle.dd_ops.specs.Listed.{IsUnder, IsListed, IsListing}

-- `==` of two ids
abbrev pub is_same : NodeId → NodeId → Bool
is_same f g = nat_eq f.0 g.0

-- the set has exactly the ids of the list
abbrev pub Agrees : Listing → Type 0
Agrees listing = (g : NodeId) → (contains is_same listing.seen g ≡ true) ↔ IsListed listing.ids.items g

-- the nodes under f have come to the list
pub record Visits (nodes : Nodes) (old new : Listing) (f : NodeId) : Type 0 where
  pub agrees : Agrees new
  pub listing : IsListing nodes new.ids.items
  pub kept : (i : ℕ) (g : NodeId) → slice_get old.ids.items i ≡ Some g → slice_get new.ids.items i ≡ Some g
  pub came : (g : NodeId) → IsListed new.ids.items g → IsListed old.ids.items g ⊎ IsUnder nodes f g
  pub all : IsSome (node_at nodes f.0) → IsListed new.ids.items f
