use Rattle.std.proofs.Common.{◌<◌, ℕ, Bool, List, length, ap, ◌∙◌, subst, arith}
use Rattle.std.proofs.lemmas.List.{length-map}
use Rattle.argos_base.specs.SignalSets.{has}
use Rattle.eqn_order.specs.inner.Graphs.{rows_of}
use Rattle.eqn_order.specs.inner.Searches.{Searches}
use Rattle.eqn_order.proofs.Places.{has-set_same, has-set_keep}
use Rattle.eqn_order.proofs.Searching.{visit_begins}
use Rattle.eqn_order.proofs.finishing.Search.visit.Goals as goal

pub enter-requires : goal.enter-requires
enter-requires c = omega (arith, c.requires.root, c.requires.search.seen_sized, length-map c.args.rows.now (λ r. r.items))

pub loop-line-init : goal.loop-line-init
loop-line-init c =
    let s = c.args.self.now in
    let n = c.enter.new.self in
    let e = c.in_ok-enter.ensures in
    let low : c.args.root < length (rows_of c.args.rows.now) = omega (arith, c.requires.root, length-map c.args.rows.now (λ r. r.items)) in (
      visit_begins (rows_of c.args.rows.now) s.seen.items n.seen.items s.followed.items n.followed.items s.path.items n.path.items s.done.items n.done.items c.args.root c.requires.search c.requires.ended low c.requires.unseen e.seen e.path e.followed e.done,
      ap (λ (xs : List Bool). has xs c.args.root) e.seen ∙ has-set_same s.seen.items c.args.root (omega (arith, low, c.requires.search.seen_sized)),
      λ x h. ap (λ (xs : List Bool). has xs x) e.seen ∙ has-set_keep s.seen.items c.args.root x h,
    )

pub step-requires-clause-search : goal.step-requires-clause-search
step-requires-clause-search c = subst (λ (xs : List ℕ). Searches (rows_of c.args.rows.now) c.loop-line.self.seen.items c.loop-line.self.followed.items xs c.loop-line.self.done.items) c.in-Some.ensures.items c.loop-line.invariant.0

pub loop-line-preserved : goal.loop-line-preserved
loop-line-preserved c =
    let e = c.in_ok-step.ensures in
    let i = c.loop-line.invariant in
    (e.search, e.keeps c.args.root i.1, λ x h. e.keeps x (i.2 x h))

pub loop-line-smaller : goal.loop-line-smaller
loop-line-smaller c = omega (arith, c.in_ok-step.ensures.less, ap length c.in-Some.ensures.items)
