use Rattle.std.proofs.Common.{◌-◌, length, arith}
use Rattle.eqn_dd.proofs.Denotations.{adds_one, adds_in_turn}
use Rattle.verdict_search.specs.Counts.{testing_count}
use Rattle.verdict_search.proofs.BadPoints.{bad_made}
use Rattle.verdict_search.proofs.testing.bad.Goals as goal

pub returns-clause-adds : goal.returns-clause-adds
returns-clause-adds c =
    let n = c.args.arena.now.variables - c.args.points in
    adds_in_turn (testing_count n (length c.args.results.now) - 1) 1 (testing_count n (length c.args.results.now)) (omega arith) c.in_ok-odd.ensures.adds (adds_one c.and.ensures.made)

pub returns-clause-bad : goal.returns-clause-bad
returns-clause-bad c = bad_made c.args.parts.now.consistent.items c.args.results.now c.and.result c.requires.structural c.in_ok-odd.ensures.adds c.in_ok-odd.ensures.none_or_differing c.and.ensures.made
