use Rattle.std.proofs.Common.{◌≡◌, ℕ, List, length, sym, subst, ◌∙◌, arith}
use Rattle.std.specs.Prelude.{Vec}
use Rattle.std.specs.declared.alloc.Global.{Global}
use Rattle.std.proofs.lemmas.List.{length-map}
use Rattle.eqn_order.specs.inner.Graphs.{rows_of, AreReversed, IsFinishingOrder}
use Rattle.eqn_order.proofs.Crossing.{are_components, reversed_rows}
use Rattle.eqn_order.proofs.components.components.Goals as goal

pub roots-requires : goal.roots-requires
roots-requires c =
    let R = rows_of c.args.rows.now in
    let Q = rows_of c.deref.result.now in
    let rev : AreReversed R Q = subst (λ (xs : List (Vec ℕ Global)). AreReversed R (rows_of xs)) (sym c.deref.ensures.value) c.in_ok-readers.ensures in
    let fin : IsFinishingOrder R c.deref-2.result.now = subst (λ (xs : List ℕ). IsFinishingOrder R xs) (sym c.deref-2.ensures.value) c.in_ok-finished.ensures in
    let size : length c.deref.result.now ≡ length R = sym (length-map c.deref.result.now (λ r. r.items)) ∙ rev.sized in
    record { inside = reversed_rows R Q rev; sized = fin.sized ∙ sym size; listed = λ v l. fin.each v (omega (arith, l, size)); lines = λ v s. omega (arith, fin.inside v s, size) }

pub returns : goal.returns
returns c =
    let R = rows_of c.args.rows.now in
    let Q = rows_of c.deref.result.now in
    let rev : AreReversed R Q = subst (λ (xs : List (Vec ℕ Global)). AreReversed R (rows_of xs)) (sym c.deref.ensures.value) c.in_ok-readers.ensures in
    let fin : IsFinishingOrder R c.deref-2.result.now = subst (λ (xs : List ℕ). IsFinishingOrder R xs) (sym c.deref-2.ensures.value) c.in_ok-finished.ensures in
    let g = c.in_ok-roots.ensures in
    record {
      components = are_components R Q c.deref-2.result.now g.0 c.in_ok-roots.field-0.items rev fin c.requires.inside g.1;
      sized = g.1.roots_sized ∙ rev.sized ∙ length-map c.args.rows.now (λ r. r.items);
    }
