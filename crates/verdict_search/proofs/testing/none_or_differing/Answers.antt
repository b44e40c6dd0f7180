use Rattle.std.proofs.Common.{◌+◌, ◌-◌, ◌*◌, ℕ, length, ap, arith}
use Rattle.dd_core.specs.declared.nodes.NodeId.{NodeId}
use Rattle.eqn_dd.proofs.Denotations.{adds_one, adds_in_turn, adds_fewer}
use Rattle.verdict_search.proofs.BadPoints.{differ_none, differ_more, differ_all, few_results}
use Rattle.verdict_search.proofs.PartNodes.{parts_later}
use Rattle.verdict_search.proofs.testing.none_or_differing.Goals as goal

pub loop-result-init : goal.loop-result-init
loop-result-init c = differ_none c.args.parts.now.consistent.items c.args.results.now c.in_ok-somewhere.ensures.adds c.in_ok-somewhere.ensures.some c.in_ok-odd.ensures.made

pub or_differing-requires-clause-parts : goal.or_differing-requires-clause-parts
or_differing-requires-clause-parts c = parts_later c.args.arena.now c.loop-result.arena c.args.points c.args.parts.now c.loop-result.invariant.adds.keeps c.requires.parts

pub loop-result-preserved : goal.loop-result-preserved
loop-result-preserved c =
    let start : NodeId = record { 0 = 0 } in
    differ_more c.args.parts.now.consistent.items c.args.results.now start c.loop-result-test.true c.requires.parts.held c.requires.results c.loop-result.invariant c.in_ok-odd-2.ensures.adds c.in_ok-odd-2.ensures.held c.in_ok-odd-2.ensures.or_differing

pub returns-in_err-somewhere-clause-adds : goal.returns-in_err-somewhere-clause-adds
returns-in_err-somewhere-clause-adds c =
    let n = c.args.arena.now.variables - c.args.points in
    adds_fewer (n * (n + 1)) _ (omega (arith, few_results n 0 (length c.args.results.now) (omega arith))) c.some_in_each.ensures.adds

pub returns-in_err-odd-clause-adds : goal.returns-in_err-odd-clause-adds
returns-in_err-odd-clause-adds c =
    let n = c.args.arena.now.variables - c.args.points in
    adds_in_turn (n * (n + 1)) 1 _ (omega (arith, few_results n 0 (length c.args.results.now) (omega arith))) c.in_ok-somewhere.ensures.adds (adds_one c.not.ensures.made)

pub returns-in_err-odd-2-clause-adds : goal.returns-in_err-odd-2-clause-adds
returns-in_err-odd-2-clause-adds c =
    let n = c.args.arena.now.variables - c.args.points in
    let before = c.loop-result.invariant.adds in
    let same = ap (λ (v : ℕ). v - c.args.points) before.keeps.variables in
    adds_in_turn _ _ _ (omega (arith, same, few_results n (c.loop-result.result-index + 1) (length c.args.results.now) (omega arith))) before c.or_differing.ensures.adds

pub returns-clause-adds : goal.returns-clause-adds
returns-clause-adds c =
    adds_fewer _ _ (few_results (c.args.arena.now.variables - c.args.points) c.loop-result.result-index (length c.args.results.now) (omega arith)) c.loop-result.invariant.adds

pub returns-clause-none_or_differing : goal.returns-clause-none_or_differing
returns-clause-none_or_differing c = differ_all c.args.parts.now.consistent.items c.args.results.now c.loop-result-test.false c.loop-result.invariant
