use Rattle.std.proofs.Common.{◌≡◌, ◌++◌, ◌∷◌, [], List, ℕ, true, false, sym, ap, ◌∙◌}
use Rattle.argos_base.specs.SignalSets.{has}
use Rattle.argos_core.specs.Views.{numbers}
use Rattle.instant_check.proofs.ReadLists.{filter-range_taken, filter-range_left, numbers-push}
use Rattle.instant_check.proofs.reading.members.Goals as goal
use Rattle.instant_check.proofs.reading.members.Goals.{then-get+in_ok-push, else-get}

pub loop-number-preserved : goal.loop-number-preserved
loop-number-preserved c =
    let p = has c.args.set.now in
    let n = c.loop-number.number in
    elim c.if-get.branch [
      | then-get+in_ok-push w ↦
          let h : p n ≡ true = cc in
          ap (λ v. numbers v.items) w.signals-is
          ∙ ap numbers w.in_ok-push.ensures.items
          ∙ numbers-push c.loop-number.signals.items (record { 0 = n })
          ∙ ap (λ (l : List ℕ). l ++ n ∷ []) c.loop-number.invariant
          ∙ sym (filter-range_taken p n h)
      | else-get w ↦
          let h : p n ≡ false = cc in
          ap (λ v. numbers v.items) w.signals-is ∙ c.loop-number.invariant ∙ sym (filter-range_left p n h)
    ]
