use Rattle.std.proofs.Common.{◌+◌, ◌-◌, ◌*◌, ℕ, List, length, get_or, refl, ap, subst, arith}
use Rattle.dd_core.specs.declared.nodes.NodeId.{NodeId}
use Rattle.eqn_dd.proofs.Denotations.{adds_one, adds_in_turn, adds_fewer}
use Rattle.verdict_search.specs.inner.Testing.{IsSomeFrom}
use Rattle.verdict_search.proofs.BadPoints.{some_none, some_more, some_all, few_parts}
use Rattle.verdict_search.proofs.PartNodes.{start}
use Rattle.verdict_search.proofs.testing.some_in_each.Goals as goal

pub loop-f-init : goal.loop-f-init
loop-f-init c = some_none c.args.arena.now c.args.points c.args.parts.now.consistent.items c.variables.ensures.arena

pub returns-in_err-somewhere-clause-adds : goal.returns-in_err-somewhere-clause-adds
returns-in_err-somewhere-clause-adds c =
    let n = c.args.arena.now.variables - c.args.points in
    let i = c.loop-f.f-index in
    let before = c.loop-f.invariant.adds in
    let same = ap (λ (v : ℕ). v - c.args.points) before.keeps.variables in
    let sized = ap length c.deref-f-items.ensures.value in
    let few = few_parts n (i + 1) n (omega (arith, sized)) refl in
    adds_in_turn (i * (n + 1)) _ (n * (n + 1)) (omega (arith, same, few)) before c.exists_from.ensures.adds

pub returns-in_err-each-clause-adds : goal.returns-in_err-each-clause-adds
returns-in_err-each-clause-adds c =
    let n = c.args.arena.now.variables - c.args.points in
    let i = c.loop-f.f-index in
    let before = c.loop-f.invariant.adds in
    let same = ap (λ (v : ℕ). v - c.args.points) before.keeps.variables in
    let sized = ap length c.deref-f-items.ensures.value in
    let few = few_parts n (i + 1) n (omega (arith, sized)) refl in
    adds_in_turn (i * (n + 1) + n) 1 (n * (n + 1)) (omega (arith, few)) (adds_in_turn (i * (n + 1)) _ (i * (n + 1) + n) (omega (arith, same)) before c.in_ok-somewhere.ensures.adds) (adds_one c.and.ensures.made)

pub loop-f-preserved : goal.loop-f-preserved
loop-f-preserved c =
    let fs = c.args.parts.now.consistent.items in
    let i = c.loop-f.f-index in
    let value = c.deref-f-items.ensures.value in
    let same = ap length value in
    let some = subst (λ (l : List NodeId). IsSomeFrom c.loop-f.arena c.exists_from.new.arena c.args.points (get_or l i start).0 c.in_ok-somewhere.somewhere.0) value c.in_ok-somewhere.ensures.some in
    some_more fs (get_or fs i start) (omega (arith, same)) c.requires.parts.held refl c.loop-f.invariant c.in_ok-somewhere.ensures.adds some c.in_ok-each.ensures.made

pub returns-clause-adds : goal.returns-clause-adds
returns-clause-adds c =
    let n = c.args.arena.now.variables - c.args.points in
    let sized = ap length c.deref-f-items.ensures.value in
    adds_fewer (c.loop-f.f-index * (n + 1)) (n * (n + 1)) (few_parts n c.loop-f.f-index n (omega (arith, sized)) refl) c.loop-f.invariant.adds

pub returns-clause-some : goal.returns-clause-some
returns-clause-some c =
    let same = ap length c.deref-f-items.ensures.value in
    some_all c.requires.parts (omega (arith, same, c.loop-f-test.false)) c.loop-f.invariant
