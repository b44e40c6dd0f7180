use Rattle.std.proofs.Common.{◌≡◌, ap, sym, subst, ◌∙◌}
use Rattle.eqn_core.specs.Views.{equations_from}
use Rattle.eqn_order.specs.inner.Graphs.{AreRows, IsFinishingOrder}
use Rattle.eqn_order.specs.inner.Sources.{Origins, origins_of, all_given, graph_of}
use Rattle.eqn_order.specs.inner.Views.{origins_from}
use Rattle.eqn_order.proofs.Edges.{graph_rows}
use Rattle.eqn_order.proofs.Planning.{plan_of}
use Rattle.eqn_order.proofs.plan.make_plan.Goals as goal

pub order_of_rest-requires : goal.order_of_rest-requires
order_of_rest-requires c =
    let E = equations_from c.args.system.now in
    let ks = c.in_ok-cyclic.cyclic.items in
    let is : origins_from c.give_all.new.sources ≡ all_given (origins_of E) ks = c.give_all.ensures ∙ ap (all_given (origins_from c.in_ok-sources.sources)) c.deref.ensures.value ∙ ap (λ (T : Origins). all_given T ks) c.in_ok-sources.ensures in
    record {
      inside = subst (λ (T : Origins). AreRows (graph_of T E.lines)) (sym is) (graph_rows E ks);
      count = c.requires;
    }

pub returns : goal.returns
returns c =
    let E = equations_from c.args.system.now in
    let ks = c.in_ok-cyclic.cyclic.items in
    let is : origins_from c.give_all.new.sources ≡ all_given (origins_of E) ks = c.give_all.ensures ∙ ap (all_given (origins_from c.in_ok-sources.sources)) c.deref.ensures.value ∙ ap (λ (T : Origins). all_given T ks) c.in_ok-sources.ensures in
    λ o. plan_of E ks c.in_ok-order.order.items o (c.in_ok-cyclic.ensures o) (subst (λ (T : Origins). IsFinishingOrder (graph_of T E.lines) c.in_ok-order.order.items) is c.in_ok-order.ensures)
