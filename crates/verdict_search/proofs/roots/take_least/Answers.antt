use Rattle.std.proofs.Common.{◌+◌, ◌-◌, arith}
use Rattle.eqn_dd.proofs.Denotations.{adds_one, adds_in_turn, adds_fewer}
use Rattle.verdict_search.proofs.RootSteps.{root_made_right, after_quantified}
use Rattle.verdict_search.proofs.roots.take_least.Goals as goal

pub returns-in_err-somewhere-clause-adds : goal.returns-in_err-somewhere-clause-adds
returns-in_err-somewhere-clause-adds c =
    let n = c.args.arena.now.variables - c.args.variable in
    adds_fewer n (5 + n) (omega arith) (after_quantified c.requires.variable (adds_one c.in_ok-low.ensures.made) c.exists_from.ensures.adds)

pub returns-in_err-forced-clause-adds : goal.returns-in_err-forced-clause-adds
returns-in_err-forced-clause-adds c =
    let n = c.args.arena.now.variables - c.args.variable in
    let first = after_quantified c.requires.variable (adds_one c.in_ok-low.ensures.made) c.in_ok-somewhere.ensures.adds in
    adds_in_turn n 1 (5 + n) (omega arith) first (adds_one c.not.ensures.made)

pub and-requires-clause-held_f : goal.and-requires-clause-held_f
and-requires-clause-held_f c =
    let first = after_quantified c.requires.variable (adds_one c.in_ok-low.ensures.made) c.in_ok-somewhere.ensures.adds in
    c.in_ok-forced.ensures.made.keeps.held c.args.structural.0 (first.keeps.held c.args.structural.0 c.requires.structural)

pub returns-in_err-root-clause-adds : goal.returns-in_err-root-clause-adds
returns-in_err-root-clause-adds c =
    let n = c.args.arena.now.variables - c.args.variable in
    let first = after_quantified c.requires.variable (adds_one c.in_ok-low.ensures.made) c.in_ok-somewhere.ensures.adds in
    let second = adds_in_turn n 1 (1 + n) (omega arith) first (adds_one c.in_ok-forced.ensures.made) in
    adds_in_turn (1 + n) 1 (5 + n) (omega arith) second (adds_one c.and.ensures.made)

pub restrict-requires-2-clause-held : goal.restrict-requires-2-clause-held
restrict-requires-2-clause-held c =
    let first = after_quantified c.requires.variable (adds_one c.in_ok-low.ensures.made) c.in_ok-somewhere.ensures.adds in
    c.in_ok-root.ensures.made.keeps.held c.args.rest.0 (c.in_ok-forced.ensures.made.keeps.held c.args.rest.0 (first.keeps.held c.args.rest.0 c.requires.rest))

pub returns-in_err-high-clause-adds : goal.returns-in_err-high-clause-adds
returns-in_err-high-clause-adds c =
    let n = c.args.arena.now.variables - c.args.variable in
    let first = after_quantified c.requires.variable (adds_one c.in_ok-low.ensures.made) c.in_ok-somewhere.ensures.adds in
    let second = adds_in_turn n 1 (1 + n) (omega arith) first (adds_one c.in_ok-forced.ensures.made) in
    let third = adds_in_turn (1 + n) 1 (2 + n) (omega arith) second (adds_one c.in_ok-root.ensures.made) in
    adds_in_turn (2 + n) 1 (5 + n) (omega arith) third (adds_one c.restrict-2.ensures.made)

pub ite-requires-clause-held_f : goal.ite-requires-clause-held_f
ite-requires-clause-held_f c =
    let f = c.in_ok-forced.forced.0 in
    c.in_ok-high.ensures.made.keeps.held f (c.in_ok-root.ensures.made.keeps.held f c.in_ok-forced.ensures.made.node.held)

pub ite-requires-clause-held_h : goal.ite-requires-clause-held_h
ite-requires-clause-held_h c =
    let f = c.in_ok-low.low.0 in
    c.in_ok-high.ensures.made.keeps.held f (c.in_ok-root.ensures.made.keeps.held f (c.in_ok-forced.ensures.made.keeps.held f (c.in_ok-somewhere.ensures.adds.keeps.held f c.in_ok-low.ensures.made.node.held)))

pub returns-in_err-next-clause-adds : goal.returns-in_err-next-clause-adds
returns-in_err-next-clause-adds c =
    let n = c.args.arena.now.variables - c.args.variable in
    let first = after_quantified c.requires.variable (adds_one c.in_ok-low.ensures.made) c.in_ok-somewhere.ensures.adds in
    let second = adds_in_turn n 1 (1 + n) (omega arith) first (adds_one c.in_ok-forced.ensures.made) in
    let third = adds_in_turn (1 + n) 1 (2 + n) (omega arith) second (adds_one c.in_ok-root.ensures.made) in
    let fourth = adds_in_turn (2 + n) 1 (3 + n) (omega arith) third (adds_one c.in_ok-high.ensures.made) in
    adds_in_turn (3 + n) 1 (5 + n) (omega arith) fourth (adds_one c.ite.ensures.made)

pub returns-clause-adds : goal.returns-clause-adds
returns-clause-adds c =
    let n = c.args.arena.now.variables - c.args.variable in
    let first = after_quantified c.requires.variable (adds_one c.in_ok-low.ensures.made) c.in_ok-somewhere.ensures.adds in
    let second = adds_in_turn n 1 (1 + n) (omega arith) first (adds_one c.in_ok-forced.ensures.made) in
    let third = adds_in_turn (1 + n) 1 (2 + n) (omega arith) second (adds_one c.in_ok-root.ensures.made) in
    let fourth = adds_in_turn (2 + n) 1 (3 + n) (omega arith) third (adds_one c.in_ok-high.ensures.made) in
    adds_in_turn (3 + n) 1 (5 + n) (omega arith) fourth (adds_one c.in_ok-next.ensures.made)

pub returns-clause-held_root : goal.returns-clause-held_root
returns-clause-held_root c =
    let f = c.in_ok-root.root.0 in
    c.in_ok-next.ensures.made.keeps.held f (c.in_ok-high.ensures.made.keeps.held f c.in_ok-root.ensures.made.node.held)

pub returns-clause-root : goal.returns-clause-root
returns-clause-root c =
    root_made_right c.requires.structural c.requires.rest c.in_ok-low.ensures.made c.in_ok-somewhere.ensures.adds c.in_ok-somewhere.ensures.some c.in_ok-forced.ensures.made c.in_ok-root.ensures.made c.in_ok-high.ensures.made c.in_ok-next.ensures.made
