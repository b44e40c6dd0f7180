use Rattle.std.proofs.Common.{ℕ, List, false, ◌+◌, ◌<◌, ◌∙◌, slice_index_or, slice_set, length, ap, sym, subst, arith}
use Rattle.std.proofs.lemmas.List.{length-map}
use Rattle.argos_base.specs.SignalSets.{SignalSet, has}
use Rattle.eqn_dd.specs.Placed.{inputs_at}
use Rattle.bisim_check.proofs.DigitsRead.{IsSetSoFar, none_set, set_more}
use Rattle.bisim_check.proofs.decoding.inputs_of.Goals as goal

pub loop-number-init : goal.loop-number-init
loop-number-init c =
    let ks = c.args.places.now.inputs.items in
    none_set (inputs_at c.args.places.now c.args.values.now) c.in_ok-set.set _ (omega (arith, c.len.ensures, length-map ks (has c.args.values.now))) c.in_ok-set.ensures

pub loop-number-preserved : goal.loop-number-preserved
loop-number-preserved c =
    let values = c.args.values.now in
    let ks = c.args.places.now.inputs.items in
    let i = c.loop-number.number in
    let inside = subst (λ (l : List ℕ). i < length l) c.deref-variable-items.ensures.value c.loop-number-test.true in
    let put = c.set.ensures ∙ ap (λ (l : List ℕ). slice_set c.loop-number.set i (slice_index_or values (slice_index_or l i 0) false)) c.deref-variable-items.ensures.value in
    subst (λ (set : SignalSet). IsSetSoFar (inputs_at c.args.places.now values) (i + 1) set) (sym put)
    (set_more values ks i c.loop-number.set inside c.loop-number.invariant)
