use Rattle.cycle_solve.specs.inner.Listing.{Agrees}
use Rattle.cycle_solve.proofs.Gathered.{AreUnderFirst}
use Rattle.cycle_solve.proofs.listing.nodes_under.Given as goal

abbrev pub invariant-loop-root : goal.invariant-loop-root
invariant-loop-root l = record {
  agrees : Agrees l.listing;
  under : AreUnderFirst l.arena.nodes l.root-index l.roots l.listing.ids.items;
}
