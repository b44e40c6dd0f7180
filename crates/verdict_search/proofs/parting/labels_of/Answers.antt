use Rattle.std.proofs.Common.{◌≡◌, ◌<◌, ◌+◌, ◌-◌, ℕ, List, length, refl, sym, ap, ◌∙◌, subst, arith}
use Rattle.std.specs.Prelude.{All}
use Rattle.std.proofs.lemmas.Iterator.{YieldsList-from_range, items_from_collect}
use Rattle.std.proofs.lemmas.List.{take_at}
use Rattle.verdict_search.specs.inner.Parting.{KeepsTogether}
use Rattle.verdict_search.specs.Parts.{part_of}
use Rattle.verdict_search.proofs.PartSteps.{ClosedSoFar, closed_none, closed_more}
use Rattle.verdict_search.proofs.parting.labels_of.Goals as goal

pub loop-place-init : goal.loop-place-init
loop-place-init c =
    let n = length c.args.bits.now in
    let all = items_from_collect c.collect.result c.collect.ensures.ran (YieldsList-from_range 0 n n refl (let e : n - 0 ≡ n = omega arith in e)) in
    closed_none c.args.arena.now.nodes c.args.points c.args.bits.now c.in_ok-labels.labels.items (rw c.in_ok-labels.was at all)

pub loop-place-preserved : goal.loop-place-preserved
loop-place-preserved c =
    let before = c.loop-place.invariant in
    let labels = c.loop-place.labels.items in
    let new = c.join_all.new.labels in
    let value : c.deref_mut.result.now ≡ labels = c.deref_mut.ensures.value in
    let sized : length new ≡ length labels = c.join_all.ensures.sized ∙ ap length value in
    let labelled = subst (λ (l : List ℕ). All (λ (p : ℕ). p < length l) new) value c.join_all.ensures.labelled in
    let together = subst (λ (l : List ℕ). KeepsTogether l new) value c.join_all.ensures.together in
    let joined = subst (λ (l : List ℕ). All (λ (j : ℕ). part_of new j ≡ part_of new c.loop-place.place) l) c.deref.ensures.value c.join_all.ensures.joined in
    let done = closed_more c.in_ok-read.read.items c.loop-place-test.true before c.in_ok-read.ensures.read sized labelled together joined in
    subst (ClosedSoFar c.args.arena.now.nodes c.args.points c.args.bits.now (c.loop-place.place + 1)) (sym (take_at new _ c.loop-place.labels.len (sized ∙ sym c.loop-place.labels.ok.0))) done

pub returns-clause-closed : goal.returns-clause-closed
returns-clause-closed c = λ i j low inside tests. c.loop-place.invariant.closed i j (omega arith) inside tests
