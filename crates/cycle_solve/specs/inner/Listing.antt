-- The nodes under several nodes, and the list with the set of its ids in which they are gathered.
use Rattle.std.specs.Prelude.{◌≡◌, ◌↔◌, List, [], ◌∷◌, ◌++◌, true, IsSome}
use Rattle.std.specs.HashSet.{contains}
use Rattle.dd_core.specs.declared.nodes.NodeId.{NodeId}
use Rattle.dd_core.specs.Diagrams.{Nodes, node_at}
use Rattle.dd_ops.specs.Listed.{IsUnder, IsListed, IsListing}
use Rattle.dd_ops.specs.inner.Visited.{is_same}
use Rattle.cycle_solve.specs.declared.listing.Listing.{Listing}

-- a listing of exactly the nodes under the roots
pub record AreUnder (nodes : Nodes) (roots ids : List NodeId) : Type 0 where
  pub listing : IsListing nodes ids
  pub under : (g : NodeId) → IsListed ids g → (f : NodeId) × (IsListed roots f × IsUnder nodes f g)
  pub all : (f g : NodeId) → IsListed roots f → IsUnder nodes f g → IsSome (node_at nodes g.0) → IsListed ids g

-- the set has exactly the ids of the list
abbrev pub Agrees : Listing → Type 0
Agrees listing = (g : NodeId) → (contains is_same listing.seen g ≡ true) ↔ IsListed listing.ids.items g

-- those of the ids that aren't in the list yet, one after the other
pub data NewOnes : List NodeId → List NodeId → List NodeId → Type 0 where
  no_more : {old : List NodeId} → NewOnes old [] old
  known : {old ids new : List NodeId} {f : NodeId} → IsListed old f → NewOnes old ids new
      → NewOnes old (f ∷ ids) new
  unknown : {old ids new : List NodeId} {f : NodeId} → ¬ (IsListed old f) → NewOnes (old ++ f ∷ []) ids new
      → NewOnes old (f ∷ ids) new

-- the ids have come to the list
pub record Takes (old new : Listing) (ids : List NodeId) : Type 0 where
  pub agrees : Agrees new
  pub new_ones : NewOnes old.ids.items ids new.ids.items
