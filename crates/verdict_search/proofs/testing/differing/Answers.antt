use Rattle.std.proofs.Common.{◌+◌, ◌-◌, ◌*◌, ℕ, ap, ◌∙◌, arith}
use Rattle.eqn_dd.proofs.Denotations.{adds_one, adds_in_turn}
use Rattle.verdict_search.proofs.BadPoints.{both_differ}
use Rattle.verdict_search.proofs.testing.differing.Goals as goal

pub returns-in_err-opposite-clause-adds : goal.returns-in_err-opposite-clause-adds
returns-in_err-opposite-clause-adds c =
    let n = c.args.arena.now.variables - c.args.points in
    adds_in_turn (1 + n) 1 (4 + 2 * n) (omega arith) c.in_ok-yes.ensures.adds (adds_one c.not.ensures.made)

pub returns-in_err-no-clause-adds : goal.returns-in_err-no-clause-adds
returns-in_err-no-clause-adds c =
    let n = c.args.arena.now.variables - c.args.points in
    let same = ap (λ (v : ℕ). v - c.args.points) (c.in_ok-opposite.ensures.made.keeps.variables ∙ c.in_ok-yes.ensures.adds.keeps.variables) in
    adds_in_turn (2 + n) _ (4 + 2 * n) (omega (arith, same))
    (adds_in_turn (1 + n) 1 (2 + n) (omega arith) c.in_ok-yes.ensures.adds (adds_one c.in_ok-opposite.ensures.made)) c.some_with-2.ensures.adds

pub and-requires-clause-held_f : goal.and-requires-clause-held_f
and-requires-clause-held_f c = c.in_ok-no.ensures.adds.keeps.held c.in_ok-yes.yes.0 (c.in_ok-opposite.ensures.made.keeps.held c.in_ok-yes.yes.0 c.in_ok-yes.ensures.held)

pub returns-clause-adds : goal.returns-clause-adds
returns-clause-adds c =
    let n = c.args.arena.now.variables - c.args.points in
    let same = ap (λ (v : ℕ). v - c.args.points) (c.in_ok-opposite.ensures.made.keeps.variables ∙ c.in_ok-yes.ensures.adds.keeps.variables) in
    adds_in_turn (3 + 2 * n) 1 (4 + 2 * n) (omega arith)
    (adds_in_turn (2 + n) _ (3 + 2 * n) (omega (arith, same))
    (adds_in_turn (1 + n) 1 (2 + n) (omega arith) c.in_ok-yes.ensures.adds (adds_one c.in_ok-opposite.ensures.made)) c.in_ok-no.ensures.adds)
    (adds_one c.and.ensures.made)

pub returns-clause-differing : goal.returns-clause-differing
returns-clause-differing c =
    both_differ c.requires.held c.requires.consistent c.in_ok-yes.ensures.adds c.in_ok-yes.ensures.some c.in_ok-yes.ensures.held c.in_ok-opposite.ensures.made
    c.and.result c.in_ok-no.ensures.adds c.in_ok-no.ensures.some c.and.ensures.made
