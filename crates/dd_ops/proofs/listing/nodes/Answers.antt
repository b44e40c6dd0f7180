use Rattle.std.proofs.Common.{sym, subst, List}
use Rattle.dd_core.specs.declared.nodes.NodeId.{NodeId}
use Rattle.dd_ops.specs.Listed.{ListsUnder}
use Rattle.dd_ops.proofs.Listings.{lists_under}
use Rattle.dd_ops.proofs.listing.nodes.Goals as goal

pub returns : goal.returns
returns c =
    let lists = lists_under c.args.arena.now c.args.f c.new-listing.result c.visit.new.listing c.visit.ensures.arena c.new-listing.ensures.empty c.in_ok-visit.ensures.visits in
    subst (λ (ids : List NodeId). ListsUnder c.args.arena.now.nodes c.args.f ids) (sym c.into_ids.ensures) lists
