use Rattle.std.proofs.Common.{arith}
use Rattle.eqn_build.proofs.LiteralLists.{lead_at}
use Rattle.eqn_build.proofs.registers.put_fire_cases.Goals as goal

pub bounds-firsts-fire : goal.bounds-firsts-fire
bounds-firsts-fire c =
    let leads = lead_at _ c.args.fires.now c.loop-fire.fire-index c.fire-item.result c.requires.lead c.loop-fire-test.true c.fire-item.is in omega (arith, leads)
