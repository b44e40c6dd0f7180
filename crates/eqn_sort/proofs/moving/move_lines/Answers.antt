use Rattle.std.proofs.Common.{◌≡◌, ℕ, ◌<◌, ◌^◌, List, length, get_or, ap, sym, subst, arith}
use Rattle.std.specs.Prelude.{All}
use Rattle.std.proofs.lemmas.List.{length-map}
use Rattle.eqn_core.specs.Equations.{bit_count}
use Rattle.eqn_core.specs.Views.{line_of, equations_from}
use Rattle.eqn_sort.proofs.Inside.{cyclic-inside, place-inside, few-bits}
use Rattle.eqn_sort.proofs.moving.move_lines.Goals as goal

pub overflow_cast-len : goal.overflow_cast-len
overflow_cast-len c =
    let E = equations_from c.args.system.now in
    let few : bit_count E < 2 ^ 32 = few-bits E c.requires.orderable in
    omega (arith, few, c.requires.bits, c.len.ensures)

pub set_of-requires : goal.set_of-requires
set_of-requires c =
    let E = equations_from c.args.system.now in
    let inside : All (λ k. k < bit_count E) c.args.plan.now.cyclic.items = cyclic-inside E c.args.plan.now.order.items c.args.plan.now.cyclic.items c.requires.orderable c.requires.plan in
    let there : All (λ k. k < bit_count E) c.deref.result.now = subst (λ (ks : List ℕ). All (λ k. k < bit_count E) ks) (sym c.deref.ensures.value) inside in
    λ k d low. let b : get_or c.deref.result.now k d < bit_count E = there k d low in omega (arith, b, c.requires.bits, c.len.ensures)

pub move_place-requires-clause-place : goal.move_place-requires-clause-place
move_place-requires-clause-place c =
    let E = equations_from c.args.system.now in
    let order = c.args.plan.now.order.items in
    let low : c.loop-place.place-index < length order = omega (arith, c.loop-place-test.true, ap length c.deref-place-items.ensures.value) in
    let inside : get_or order c.loop-place.place-index 0 < length E.lines = place-inside E order c.args.plan.now.cyclic.items c.requires.plan c.loop-place.place-index 0 low in
    let is : get_or c.deref-place-items.result.now c.loop-place.place-index 0 ≡ get_or order c.loop-place.place-index 0 = ap (λ (l : List ℕ). get_or l c.loop-place.place-index 0) c.deref-place-items.ensures.value in
    omega (arith, inside, is, length-map c.args.system.now.lines.items line_of)
