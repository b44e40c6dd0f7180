use Rattle.std.specs.HashSet.{contains}
use Rattle.dd_ops.specs.inner.Visited.{is_same}
use Rattle.dd_ops.proofs.Listings.{agrees_more}
use Rattle.cycle_solve.proofs.listing.Listing.push.Goals as goal

pub returns-clause-agrees : goal.returns-clause-agrees
returns-clause-agrees c = agrees_more c.args.self.now.ids.items c.push.new.self.items
    (contains is_same c.args.self.now.seen)
    (contains is_same c.insert.new.self) c.args.f c.requires.agrees c.in_ok-push.ensures.items
    c.in_ok-insert.ensures.updates.0
