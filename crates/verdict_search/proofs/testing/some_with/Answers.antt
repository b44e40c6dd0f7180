use Rattle.std.proofs.Common.{◌+◌, ◌-◌, ℕ, ap, arith}
use Rattle.eqn_dd.proofs.Denotations.{adds_one, adds_in_turn}
use Rattle.verdict_search.proofs.BadPoints.{some_met}
use Rattle.verdict_search.proofs.testing.some_with.Goals as goal

pub returns-clause-adds : goal.returns-clause-adds
returns-clause-adds c =
    let same = ap (λ (v : ℕ). v - c.args.points) c.in_ok-met.ensures.made.keeps.variables in
    adds_in_turn 1 _ (1 + (c.args.arena.now.variables - c.args.points)) (omega (arith, same)) (adds_one c.in_ok-met.ensures.made) c.exists_from.ensures.adds

pub returns-clause-some : goal.returns-clause-some
returns-clause-some c = some_met c.exists_from.new.arena c.args.points c.exists_from.result c.in_ok-met.ensures.made c.exists_from.ensures.some
