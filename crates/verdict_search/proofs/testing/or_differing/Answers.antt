use Rattle.std.proofs.Common.{◌+◌, ◌-◌, ◌*◌, ℕ, length, ap, sym, ◌∙◌, arith}
use Rattle.std.proofs.lemmas.Bool.{eqb-true}
use Rattle.eqn_dd.proofs.Denotations.{adds_one, adds_in_turn, adds_fewer}
use Rattle.verdict_search.proofs.BadPoints.{or_skipped, or_differs}
use Rattle.verdict_search.proofs.testing.or_differing.Goals as goal

pub returns-then-is_empty-clause-or_differing : goal.returns-then-is_empty-clause-or_differing
returns-then-is_empty-clause-or_differing c =
    or_skipped c.args.arena.now c.args.points c.args.parts.now.consistent.items c.args.f.0 c.args.g (λ j tests. let listed = c.in_ok-read.ensures.read j tests in let low = listed.1 in let none = eqb-true c.in_ok-read.read.len 0 (sym c.is_empty.ensures ∙ c.if-is_empty.true) in absurd (omega (arith, low, none, c.in_ok-read.read.ok.0)))

pub returns-clause-or_differing : goal.returns-clause-or_differing
returns-clause-or_differing c =
    or_differs c.args.g c.or.result c.requires.parts c.requires.held_f c.requires.held_g c.in_ok-read.ensures.read c.in_ok-consistent.ensures.adds (rw c.deref.ensures.value at c.in_ok-consistent.ensures.near) c.in_ok-differs.ensures.adds c.in_ok-differs.ensures.differing c.or.ensures.made

pub returns-in_err-consistent-clause-adds : goal.returns-in_err-consistent-clause-adds
returns-in_err-consistent-clause-adds c =
    let n = c.args.arena.now.variables - c.args.points in
    adds_fewer (length c.args.parts.now.consistent.items) (5 + 3 * n) (omega arith) c.near.ensures.adds

pub returns-in_err-differs-clause-adds : goal.returns-in_err-differs-clause-adds
returns-in_err-differs-clause-adds c =
    let n = c.args.arena.now.variables - c.args.points in
    let same = ap (λ (v : ℕ). v - c.args.points) c.in_ok-consistent.ensures.adds.keeps.variables in
    adds_in_turn (length c.args.parts.now.consistent.items) _ (5 + 3 * n) (omega (arith, same)) c.in_ok-consistent.ensures.adds c.differing.ensures.adds

pub returns-clause-adds : goal.returns-clause-adds
returns-clause-adds c =
    let n = c.args.arena.now.variables - c.args.points in
    let same = ap (λ (v : ℕ). v - c.args.points) c.in_ok-consistent.ensures.adds.keeps.variables in
    adds_in_turn (4 + 3 * n) 1 (5 + 3 * n) (omega arith) (adds_in_turn (length c.args.parts.now.consistent.items) _ (4 + 3 * n) (omega (arith, same)) c.in_ok-consistent.ensures.adds c.in_ok-differs.ensures.adds) (adds_one c.or.ensures.made)
