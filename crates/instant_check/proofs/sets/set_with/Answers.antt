use Rattle.std.proofs.Common.{◌<◌, ◌+◌, length, get_or, sym, subst, ◌∙◌, arith}
use Rattle.argos_base.specs.SignalSets.{SignalSet}
use Rattle.instant_check.proofs.ChosenSets.{ChosenUpTo, chosen_begin, chosen_taken, chosen_passed, chosen_all}
use Rattle.instant_check.proofs.EffectLists.{lists_at}
use Rattle.instant_check.proofs.sets.set_with.Goals as goal
use Rattle.instant_check.proofs.sets.set_with.Goals.{then-values-place, else-values-place}

pub loop-place-init : goal.loop-place-init
loop-place-init c = subst (λ (set : SignalSet). ChosenUpTo c.args.count c.args.signals.now c.args.values.now 0 set) (sym c.in_ok-set.ensures) (chosen_begin c.args.count c.args.signals.now c.args.values.now)

pub set-requires : goal.set-requires
set-requires c =
    let small = c.requires.inside (get_or c.args.signals.now c.loop-place.place (record { 0 = 0 })).0 (lists_at c.args.signals.now c.loop-place.place (record { 0 = 0 }) c.loop-place-test.true) in
    omega (arith, small, c.loop-place.invariant.sized)

pub loop-place-preserved : goal.loop-place-preserved
loop-place-preserved c =
    let below : c.loop-place.place < length c.args.signals.now = c.loop-place-test.true in
    let inside : c.loop-place.place < length c.args.values.now = omega (arith, c.requires.sized) in
    elim c.if-values-place.branch [
      | then-values-place w ↦
          subst (λ (set : SignalSet). ChosenUpTo c.args.count c.args.signals.now c.args.values.now (c.loop-place.place + 1) set) (sym (w.set-is ∙ w.set.ensures))
          (chosen_taken c.args.signals.now c.args.values.now c.loop-place.place (record { 0 = 0 }) below inside
          (c.requires.inside (get_or c.args.signals.now c.loop-place.place (record { 0 = 0 })).0 (lists_at c.args.signals.now c.loop-place.place (record { 0 = 0 }) below))
          w.if-values-place.true c.loop-place.invariant)
      | else-values-place w ↦
          subst (λ (set : SignalSet). ChosenUpTo c.args.count c.args.signals.now c.args.values.now (c.loop-place.place + 1) set) (sym w.set-is)
          (chosen_passed c.args.signals.now c.args.values.now c.loop-place.place (record { 0 = 0 }) below inside w.if-values-place.false c.loop-place.invariant)
    ]

pub returns : goal.returns
returns c = chosen_all c.args.signals.now c.args.values.now c.loop-place.place c.loop-place-test.false c.loop-place.invariant
