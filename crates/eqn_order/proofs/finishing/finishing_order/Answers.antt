use Rattle.std.proofs.Common.{◌≡◌, ◌<◌, ℕ, List, false, length, replicate, sym, subst, ◌∙◌, rules, arith}
use Rattle.std.proofs.lemmas.List.{length-map}
use Rattle.eqn_order.specs.inner.Graphs.{rows_of}
use Rattle.eqn_order.specs.inner.Searches.{Searches}
use Rattle.eqn_order.proofs.Searching.{ends_finished, begun_with, seen_below}
use Rattle.eqn_order.proofs.finishing.finishing_order.Goals as goal
use Rattle.eqn_order.proofs.Places.{read_bool}

pub loop-root-init : goal.loop-root-init
loop-root-init c =
    let seen : c.in_ok-vec.field-0.items ≡ replicate (length c.args.rows.now) false = search rules in
    let followed : c.in_ok-vec-2.field-0.items ≡ replicate (length c.args.rows.now) 0 = search rules in
    (begun_with (rows_of c.args.rows.now) (length c.args.rows.now) _ _ _ _ (sym (length-map c.args.rows.now (λ r. r.items))) seen followed c.new.ensures.items c.in_ok-with_capacity.ensures.items, c.new.ensures.items, λ x l. absurd (omega arith))

pub visit-requires : goal.visit-requires
visit-requires c =
    let i = c.loop-root.invariant in
    let low : c.loop-root.root < length c.loop-root.search.seen.items = omega (arith, i.0.seen_sized, c.loop-root-test.true, length-map c.args.rows.now (λ r. r.items)) in
    record { inside = c.requires.inside; root = c.loop-root-test.true; unseen = read_bool c.loop-root.search.seen.items c.loop-root.root c.index.result.now low c.index.ensures ∙ c.if-index.false; search = i.0; ended = i.1 }

pub loop-root-preserved-then-index : goal.loop-root-preserved-then-index
loop-root-preserved-then-index c =
    let i = c.loop-root.invariant in
    let low : c.loop-root.root < length c.loop-root.search.seen.items = omega (arith, i.0.seen_sized, c.loop-root-test.true, length-map c.args.rows.now (λ r. r.items)) in
    (i.0, i.1, seen_below c.loop-root.search.seen.items c.loop-root.root i.2 (read_bool c.loop-root.search.seen.items c.loop-root.root c.index.result.now low c.index.ensures ∙ c.if-index.true))

pub loop-root-preserved : goal.loop-root-preserved
loop-root-preserved c =
    let i = c.loop-root.invariant in
    let e = c.in_ok-visit.ensures in
    (e.search, e.ended, seen_below c.visit.new.self.seen.items c.loop-root.root (λ x l. e.keeps x (i.2 x l)) e.seen)

pub returns : goal.returns
returns c =
    let i = c.loop-root.invariant in
    let s = c.loop-root.search in
    ends_finished (rows_of c.args.rows.now) s.seen.items s.followed.items s.done.items (subst (λ (xs : List ℕ). Searches (rows_of c.args.rows.now) s.seen.items s.followed.items xs s.done.items) i.1 i.0) (λ x l. i.2 x (omega (arith, c.loop-root-test.false, length-map c.args.rows.now (λ r. r.items))))
