use Rattle.std.proofs.Common.{refl, arith}
use Rattle.std.proofs.lemmas.Iterator.{YieldsList-from_range, items_from_collect}
use Rattle.bisim_check.proofs.diagrams.plan_as_it_stands.Goals as goal

pub returns-clause-order : goal.returns-clause-order
returns-clause-order c =
    let all = items_from_collect c.collect.result c.collect.ensures.ran (YieldsList-from_range 0 c.args.lines c.args.lines refl (omega arith)) in
    rw c.in_ok-order.was at all
