use Rattle.std.proofs.Common.{arith}
use Rattle.eqn_build.proofs.LiteralLists.{lead_at}
use Rattle.eqn_build.proofs.tables.entries.Goals as goal

pub put_literal-requires : goal.put_literal-requires
put_literal-requires c =
    let leads = lead_at c.args.count c.args.fires.now c.loop-fire.fire-index c.fire-item.result c.requires.lead c.loop-fire-test.true c.fire-item.is in record { exists = omega (arith, leads, c.loop-fire.invariant.len) }
