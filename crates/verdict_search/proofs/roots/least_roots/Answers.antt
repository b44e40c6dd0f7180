use Rattle.std.proofs.Common.{◌≡◌, ◌<◌, ◌≤◌, ◌+◌, ◌-◌, ◌*◌, ℕ, List, length, set, get_or, refl, sym, ap, ◌∙◌, subst, arith}
use Rattle.dd_core.specs.declared.nodes.NodeId.{NodeId}
use Rattle.dd_core.specs.Arenas.{AddsAtMost}
use Rattle.eqn_dd.proofs.Denotations.{adds_in_turn, adds_fewer}
use Rattle.verdict_search.specs.Parts.{part_of}
use Rattle.verdict_search.specs.inner.Solving.{IsRoot, AreBoth}
use Rattle.verdict_search.proofs.PartNodes.{start}
use Rattle.verdict_search.proofs.PartSteps.{defaults_of}
use Rattle.verdict_search.proofs.RootSteps.{RootsSoFar, roots_none, roots_more, roots_all, few_roots, few_all}
use Rattle.verdict_search.proofs.roots.least_roots.Goals as goal

pub returns-in_err-rests-clause-adds : goal.returns-in_err-rests-clause-adds
returns-in_err-rests-clause-adds c =
    let n = c.args.arena.now.variables - c.args.points in
    adds_fewer (length c.deref.result.now) (n + n * (5 + n)) (omega (arith, ap length c.deref.ensures.value)) c.at_structural.ensures.adds

pub loop-place-init : goal.loop-place-init
loop-place-init c =
    let fs = c.args.parts.now.consistent.items in
    let value = c.deref.ensures.value in
    let adds = subst (λ (l : List NodeId). AddsAtMost (length l) c.args.arena.now c.at_structural.new.arena) value c.in_ok-rests.ensures.adds in
    let sized = c.in_ok-rests.ensures.sized ∙ ap length value in
    let are = subst (λ (l : List NodeId). AreBoth c.args.arena.now c.at_structural.new.arena c.args.structural.0 l c.in_ok-rests.rests.items) value c.in_ok-rests.ensures.denote in
    subst (λ (l : List NodeId). RootsSoFar c.args.arena.now c.args.points c.args.structural.0 c.args.parts.now 0 c.at_structural.new.arena l c.in_ok-rests.rests.items) (sym c.new-roots.ensures.items)
    (roots_none c.args.parts.now adds sized are)

pub take_least-requires-clause-variable : goal.take_least-requires-clause-variable
take_least-requires-clause-variable c =
    omega (arith, c.loop-place-test.true, ap length c.deref-part-items.ensures.value, c.loop-place.invariant.adds.keeps.variables)

pub returns-in_err-root-clause-adds : goal.returns-in_err-root-clause-adds
returns-in_err-root-clause-adds c =
    let before = c.loop-place.invariant.adds in
    let n = c.args.arena.now.variables - c.args.points in
    let low : c.loop-place.place < n = omega (arith, ap length c.deref-part-items.ensures.value, c.loop-place-test.true) in
    let few = few_roots n c.loop-place.place (c.loop-place.arena.variables - (c.args.points + c.loop-place.place)) n low (omega (arith, before.keeps.variables)) in
    adds_in_turn (length c.args.parts.now.consistent.items + c.loop-place.place * (5 + n)) (5 + (c.loop-place.arena.variables - (c.args.points + c.loop-place.place))) (n + n * (5 + n)) (omega (arith, few)) before c.take_least.ensures.adds

pub returns-in_err-push-clause-adds : goal.returns-in_err-push-clause-adds
returns-in_err-push-clause-adds c =
    let before = c.loop-place.invariant.adds in
    let n = c.args.arena.now.variables - c.args.points in
    let low : c.loop-place.place < n = omega (arith, ap length c.deref-part-items.ensures.value, c.loop-place-test.true) in
    let few = few_roots n c.loop-place.place (c.loop-place.arena.variables - (c.args.points + c.loop-place.place)) n low (omega (arith, before.keeps.variables)) in
    adds_in_turn (length c.args.parts.now.consistent.items + c.loop-place.place * (5 + n)) (5 + (c.loop-place.arena.variables - (c.args.points + c.loop-place.place))) (n + n * (5 + n)) (omega (arith, few)) before c.in_ok-root.ensures.adds

pub loop-place-preserved : goal.loop-place-preserved
loop-place-preserved c =
    let before = c.loop-place.invariant in
    let labels = c.args.parts.now.labels.items in
    let value = c.deref-part-items.ensures.value in
    let j = c.loop-place.place in
    let low : j < length labels = omega (arith, ap length value, c.loop-place-test.true) in
    let p = get_or c.deref-part-items.result.now j 0 in
    let own : p ≡ part_of labels j = ap (λ (l : List ℕ). get_or l j 0) value in
    let place : p < length c.args.parts.now.consistent.items = let at = c.requires.parts.labelled j 0 low in omega (arith, own, at) in
    let inside : p < length c.loop-place.rests.items = omega (arith, before.rests_sized) in
    let rest : c.index.result.now ≡ get_or c.loop-place.rests.items p start = c.index.ensures ∙ defaults_of c.loop-place.rests.items p c.index.result.now start inside in
    let root = subst (λ (f : NodeId). IsRoot c.loop-place.arena c.take_least.new.arena (c.args.points + j) c.args.structural.0 f.0 c.in_ok-root.root.0 c.in_ok-root.next.0) rest c.in_ok-root.ensures.root in
    subst (λ (l : List NodeId). RootsSoFar c.args.arena.now c.args.points c.args.structural.0 c.args.parts.now (j + 1) c.take_least.new.arena l (set c.loop-place.rests.items p c.in_ok-root.next)) (sym c.in_ok-push.ensures.items)
    (roots_more c.args.parts.now c.requires.parts refl (omega arith) own place c.requires.structural before c.in_ok-root.ensures.adds c.in_ok-root.ensures.held_root c.in_ok-root.ensures.held_next root)

pub returns-clause-adds : goal.returns-clause-adds
returns-clause-adds c =
    let n = c.args.arena.now.variables - c.args.points in
    let end : c.loop-place.place ≤ n = omega (arith, ap length c.deref-part-items.ensures.value) in
    let few = few_all n c.loop-place.place end in
    adds_fewer (length c.args.parts.now.consistent.items + c.loop-place.place * (5 + n)) (n + n * (5 + n)) (omega (arith, few)) c.loop-place.invariant.adds

pub returns-clause-sized : goal.returns-clause-sized
returns-clause-sized c = let end = c.loop-place.invariant.sized in omega (arith, ap length c.deref-part-items.ensures.value, c.loop-place-test.false)

pub returns-clause-least : goal.returns-clause-least
returns-clause-least c =
    roots_all c.args.parts.now c.loop-place.roots.items (omega (arith, ap length c.deref-part-items.ensures.value, c.loop-place-test.false)) c.loop-place.invariant
