use Rattle.std.proofs.Common.{◌+◌, ◌*◌, ◌-◌, length, refl, arith}
use Rattle.eqn_dd.proofs.Denotations.{adds_one, adds_in_turn}
use Rattle.verdict_search.proofs.PinnedNodes.{point_none, point_more, point_all}
use Rattle.verdict_search.proofs.pinning.point.Goals as goal

pub loop-left-init : goal.loop-left-init
loop-left-init c = point_none c.args.arena.now c.args.values.now c.variables.ensures.arena

pub loop-left-preserved : goal.loop-left-preserved
loop-left-preserved c = point_more c.loop-left-test.true refl c.loop-left.invariant c.in_ok-here.ensures.adds c.in_ok-here.ensures.denotes c.in_ok-there.ensures.made

pub returns-in_err-here-clause-adds : goal.returns-in_err-here-clause-adds
returns-in_err-here-clause-adds c =
    let before = c.loop-left.invariant in
    adds_in_turn (3 * (length c.args.values.now - c.loop-left.left)) 2 (3 * length c.args.values.now) (omega (arith, before.inside)) before.adds c.literal.ensures.adds

pub returns-in_err-there-clause-adds : goal.returns-in_err-there-clause-adds
returns-in_err-there-clause-adds c =
    let before = c.loop-left.invariant in
    let n = length c.args.values.now - c.loop-left.left in
    adds_in_turn (3 * n + 2) 1 (3 * length c.args.values.now) (omega (arith, before.inside)) (adds_in_turn (3 * n) 2 (3 * n + 2) (omega arith) before.adds c.in_ok-here.ensures.adds) (adds_one c.and.ensures.made)

pub returns-clause-point : goal.returns-clause-point
returns-clause-point c = point_all (let last = c.loop-left-test.false in omega arith) c.loop-left.invariant
