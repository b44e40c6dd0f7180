use Rattle.std.proofs.Common.{◌≡◌, ℕ, List, map, length, ap, sym, subst, ◌∙◌, arith}
use Rattle.std.proofs.lemmas.List.{length-map}
use Rattle.eqn_core.specs.Views.{line_of}
use Rattle.eqn_order.specs.inner.Graphs.{rows_of, AreRows, IsFinishingOrder}
use Rattle.eqn_order.specs.inner.Sources.{lines_read, graph_of}
use Rattle.eqn_order.specs.inner.Views.{origins_from}
use Rattle.eqn_order.proofs.plan.order_of_rest.Goals as goal

pub finishing_order-requires : goal.finishing_order-requires
finishing_order-requires c =
    let T = origins_from c.args.sources.now in
    let is : rows_of c.deref-2.result.now ≡ graph_of T (map line_of c.args.system.now.lines.items) = ap rows_of c.deref-2.ensures.value ∙ c.in_ok-rows.ensures ∙ ap (λ ls. graph_of T (map line_of ls)) c.deref.ensures.value in
    record {
      inside = subst (λ (R : List (List ℕ)). AreRows R) (sym is) c.requires.inside;
      count = omega (arith, c.requires.count, ap length is, length-map c.deref-2.result.now (λ r. r.items), length-map (map line_of c.args.system.now.lines.items) (lines_read T), length-map c.args.system.now.lines.items line_of);
    }

pub returns : goal.returns
returns c =
    let T = origins_from c.args.sources.now in
    let is : rows_of c.deref-2.result.now ≡ graph_of T (map line_of c.args.system.now.lines.items) = ap rows_of c.deref-2.ensures.value ∙ c.in_ok-rows.ensures ∙ ap (λ ls. graph_of T (map line_of ls)) c.deref.ensures.value in
    subst (λ (R : List (List ℕ)). IsFinishingOrder R c.in_ok-finishing_order.field-0.items) is c.in_ok-finishing_order.ensures
