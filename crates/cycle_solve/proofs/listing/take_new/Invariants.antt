use Rattle.std.proofs.Common.{List, drop}
use Rattle.dd_core.specs.declared.nodes.NodeId.{NodeId}
use Rattle.cycle_solve.specs.inner.Listing.{Agrees, NewOnes}
use Rattle.cycle_solve.proofs.listing.take_new.Given as goal

-- whatever is left to take comes behind what is taken
abbrev pub invariant-loop-id : goal.invariant-loop-id
invariant-loop-id l = record {
  agrees : Agrees l.listing;
  taken : (new : List NodeId) → NewOnes l.listing.ids.items (drop l.id-index l.ids) new
      → NewOnes l.initial.listing.ids.items l.ids new;
}
