use Rattle.std.proofs.Common.{◌≡◌, ℕ, List, [], map, length, ap, sym, subst, ◌∙◌, arith}
use Rattle.std.specs.Prelude.{filter}
use Rattle.std.proofs.lemmas.List.{length-map}
use Rattle.eqn_core.specs.Views.{line_of, equations_from}
use Rattle.eqn_order.specs.inner.Cyclic.{is_on_cycle}
use Rattle.eqn_order.specs.inner.Graphs.{rows_of, AreRows, AreComponents}
use Rattle.eqn_order.specs.inner.Sources.{Origins, lines_read, graph_of, origins_of, line_of_bit}
use Rattle.eqn_order.specs.inner.Views.{origins_from}
use Rattle.eqn_order.proofs.Edges.{G, graph_rows}
use Rattle.eqn_order.proofs.Planning.{are_cyclic, line_inside}
use Rattle.eqn_order.proofs.plan.cyclic_bits.Goals as goal

pub components-requires : goal.components-requires
components-requires c =
    let E = equations_from c.args.system.now in
    let is : rows_of c.deref-2.result.now ≡ G E [] = ap rows_of c.deref-2.ensures.value ∙ c.in_ok-rows.ensures ∙ ap (λ ls. graph_of (origins_from c.args.sources.now) (map line_of ls)) c.deref.ensures.value ∙ ap (λ (T : Origins). graph_of T E.lines) c.requires.sources in
    record {
      inside = subst (λ (R : List (List ℕ)). AreRows R) (sym is) (graph_rows E []);
      count = omega (arith, c.requires.count, length-map c.args.system.now.lines.items line_of, ap length is, length-map c.deref-2.result.now (λ r. r.items), length-map E.lines (lines_read (origins_of E)));
    }

pub bits_on_cycles-requires : goal.bits_on_cycles-requires
bits_on_cycles-requires c =
    let E = equations_from c.args.system.now in
    let is : rows_of c.deref-4.result.now ≡ G E [] = ap rows_of c.deref-4.ensures.value ∙ c.in_ok-rows.ensures ∙ ap (λ ls. graph_of (origins_from c.args.sources.now) (map line_of ls)) c.deref.ensures.value ∙ ap (λ (T : Origins). graph_of T E.lines) c.requires.sources in
    let size : length c.deref-4.result.now ≡ length E.lines = sym (length-map c.deref-4.result.now (λ r. r.items)) ∙ ap length is ∙ length-map E.lines (lines_read (origins_of E)) in
    record {
      inside = subst (λ (R : List (List ℕ)). AreRows R) (sym is) (graph_rows E []);
      roots = ap length c.deref-5.ensures.value ∙ c.in_ok-roots.ensures.sized ∙ ap length c.deref-2.ensures.value ∙ sym (ap length c.deref-4.ensures.value);
      lines = λ k v e. omega (arith, size, line_inside E k v (ap (λ (T : Origins). line_of_bit T k) (sym c.requires.sources) ∙ e));
    }

pub returns : goal.returns
returns c =
    let E = equations_from c.args.system.now in
    let is2 : rows_of c.deref-2.result.now ≡ G E [] = ap rows_of c.deref-2.ensures.value ∙ c.in_ok-rows.ensures ∙ ap (λ ls. graph_of (origins_from c.args.sources.now) (map line_of ls)) c.deref.ensures.value ∙ ap (λ (T : Origins). graph_of T E.lines) c.requires.sources in
    let is4 : rows_of c.deref-4.result.now ≡ G E [] = ap rows_of c.deref-4.ensures.value ∙ c.in_ok-rows.ensures ∙ ap (λ ls. graph_of (origins_from c.args.sources.now) (map line_of ls)) c.deref.ensures.value ∙ ap (λ (T : Origins). graph_of T E.lines) c.requires.sources in
    let roots = c.in_ok-roots.roots.items in
    let comps : AreComponents (G E []) roots = subst (λ (R : List (List ℕ)). AreComponents R roots) is2 c.in_ok-roots.ensures.components in
    λ o. are_cyclic E o roots c.in_ok-bits_on_cycles.field-0.items comps
    (c.in_ok-bits_on_cycles.ensures
    ∙ ap (λ (R : List (List ℕ)). filter (λ k. is_on_cycle R c.deref-5.result.now (line_of_bit (origins_from c.args.sources.now) k)) c.deref-3.result.now) is4
    ∙ ap (λ (rs : List ℕ). filter (λ k. is_on_cycle (G E []) rs (line_of_bit (origins_from c.args.sources.now) k)) c.deref-3.result.now) c.deref-5.ensures.value
    ∙ ap (λ (T : Origins). filter (λ k. is_on_cycle (G E []) roots (line_of_bit T k)) c.deref-3.result.now) c.requires.sources
    ∙ ap (λ (bs : List ℕ). filter (λ k. is_on_cycle (G E []) roots (line_of_bit (origins_of E) k)) bs) c.deref-3.ensures.value)
