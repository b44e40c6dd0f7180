use Rattle.std.proofs.Common.{◌+◌, refl, arith}
use Rattle.std.proofs.lemmas.Iterator.{YieldsList-from_range, items_from_collect}
use Rattle.eqn_dd.proofs.places.variables_from.Goals as goal

pub returns : goal.returns
returns c =
    let all = items_from_collect c.collect.result c.collect.ensures.ran (YieldsList-from_range c.args.first (c.args.first + c.args.count) c.args.count refl (omega arith)) in
    rw c.in_ok-variables.was at all
