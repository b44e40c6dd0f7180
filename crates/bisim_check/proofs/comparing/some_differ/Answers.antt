use Rattle.std.proofs.Common.{◌-◌, ◌+◌, ◌*◌, length, refl, arith}
use Rattle.bisim_check.proofs.Differing.{differ_none, differ_more, differ_all}
use Rattle.eqn_dd.proofs.Denotations.{adds_one, adds_in_turn, adds_fewer}
use Rattle.bisim_check.proofs.comparing.some_differ.Goals as goal

pub loop-left-init : goal.loop-left-init
loop-left-init c = differ_none c.args.arena.now c.args.lefts.now c.args.rights.now (length c.args.lefts.now) refl c.variables.ensures.arena

pub alone-requires-clause-held_f : goal.alone-requires-clause-held_f
alone-requires-clause-held_f c =
    c.loop-left.invariant.adds.keeps.held _ (c.requires.left (c.loop-left.left - 1) (record { 0 = 0 }) (omega (arith, c.loop-left.invariant.bound)))

pub alone-requires-clause-held_g : goal.alone-requires-clause-held_g
alone-requires-clause-held_g c =
    c.loop-left.invariant.adds.keeps.held _
    (c.requires.right (c.loop-left.left - 1) (record { 0 = 0 }) (omega (arith, c.loop-left.invariant.bound, c.requires.same)))

pub returns-in_err-one-clause-adds : goal.returns-in_err-one-clause-adds
returns-in_err-one-clause-adds c =
    adds_in_turn (3 * (length c.args.lefts.now - c.loop-left.left)) 2 (3 * length c.args.lefts.now) (omega (arith, c.loop-left.invariant.bound))
    c.loop-left.invariant.adds c.alone.ensures.adds

pub returns-in_err-differ-clause-adds : goal.returns-in_err-differ-clause-adds
returns-in_err-differ-clause-adds c =
    adds_in_turn (3 * (length c.args.lefts.now - c.loop-left.left) + 2) 1 (3 * length c.args.lefts.now) (omega (arith, c.loop-left.invariant.bound))
    (adds_in_turn (3 * (length c.args.lefts.now - c.loop-left.left)) 2 (3 * (length c.args.lefts.now - c.loop-left.left) + 2) (omega arith) c.loop-left.invariant.adds c.in_ok-one.ensures.adds) (adds_one c.or.ensures.made)

pub loop-left-preserved : goal.loop-left-preserved
loop-left-preserved c =
    differ_more (record { 0 = 0 }) (omega arith) c.requires.same c.requires.left c.requires.right c.loop-left.invariant c.in_ok-one.ensures.adds
    c.in_ok-one.ensures.denotes c.in_ok-differ.ensures.made

pub returns-clause-adds : goal.returns-clause-adds
returns-clause-adds c =
    adds_fewer (3 * (length c.args.lefts.now - c.loop-left.left)) (3 * length c.args.lefts.now) (omega (arith, c.loop-left.invariant.bound))
    c.loop-left.invariant.adds

pub returns-clause-denotes : goal.returns-clause-denotes
returns-clause-denotes c = differ_all (omega arith) c.loop-left.invariant
