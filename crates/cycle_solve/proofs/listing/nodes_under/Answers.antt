use Rattle.std.proofs.Common.{List, sym, subst, refl, get_or}
use Rattle.dd_core.specs.declared.nodes.NodeId.{NodeId}
use Rattle.cycle_solve.specs.inner.Listing.{AreUnder, NewOnes}
use Rattle.cycle_solve.proofs.Gathered.{under_more, under_all}
use Rattle.cycle_solve.proofs.listing.nodes_under.Goals as goal

pub loop-root-preserved : goal.loop-root-preserved
loop-root-preserved c =
    let start : NodeId = record { 0 = 0 } in
    let f : NodeId = get_or c.args.roots.now c.loop-root.root-index start in
    let ids = c.in_ok-under.under.items in
    let taken = subst (λ (l : List NodeId). NewOnes c.loop-root.listing.ids.items l
    c.take_new.new.listing.ids.items) c.deref.ensures.value c.in_ok-take_new.ensures.new_ones in
    record {
      agrees = c.in_ok-take_new.ensures.agrees;
      under = under_more c.args.arena.now.nodes c.loop-root.root-index c.args.roots.now
          c.loop-root.listing.ids.items ids c.take_new.new.listing.ids.items f start c.loop-root-test.true refl
          c.loop-root.invariant.under c.in_ok-under.ensures taken;
    }

pub returns : goal.returns
returns c = record {
  under = subst (λ (l : List NodeId). AreUnder c.args.arena.now.nodes c.args.roots.now l)
      (sym c.into_ids.ensures) (under_all c.args.arena.now.nodes c.loop-root.root-index c.args.roots.now
      c.loop-root.listing.ids.items c.loop-root-test.false c.loop-root.invariant.under);
}
