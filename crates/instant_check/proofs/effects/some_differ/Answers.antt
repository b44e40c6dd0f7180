use Rattle.std.proofs.Common.{◌≤◌, map, length, arith, refl}
use Rattle.std.proofs.lemmas.List.{length-map}
use Rattle.argos_core.specs.Views.{transition_of}
use Rattle.instant_check.proofs.EffectLists.{alike_more, none_differ, some_differ_here, true_and_false}
use Rattle.instant_check.proofs.Meetings.{transition_here}
use Rattle.instant_check.proofs.effects.some_differ.Goals as goal

pub returns-then-not-have_one_effect : goal.returns-then-not-have_one_effect
returns-then-not-have_one_effect c =
    let ts = c.args.transitions.now in (
      λ _. some_differ_here c.args.count (map transition_of ts) c.loop-transition.transition-index _ _
          (transition_here ts 0 c.index-transitions-0.result (omega arith) c.index-transitions-0.is)
          (transition_here ts c.loop-transition.transition-index c.transition-item.result c.loop-transition-test.true c.transition-item.is)
          (λ alike. true_and_false (c.have_one_effect.ensures.1 alike) c.if-not-have_one_effect.true),
      λ _. refl,
    )

pub loop-transition-preserved : goal.loop-transition-preserved
loop-transition-preserved c =
    let ts = c.args.transitions.now in
    alike_more c.args.count (map transition_of ts) c.loop-transition.transition-index _ _ c.loop-transition.invariant
    (transition_here ts 0 c.index-transitions-0.result (omega arith) c.index-transitions-0.is)
    (transition_here ts c.loop-transition.transition-index c.transition-item.result c.loop-transition-test.true c.transition-item.is)
    (c.have_one_effect.ensures.0 c.if-not-have_one_effect.false)

pub returns : goal.returns
returns c =
    let all : length (map transition_of c.args.transitions.now) ≤ c.loop-transition.transition-index = omega (arith, c.loop-transition-test.false, length-map c.args.transitions.now transition_of) in
    (λ e. absurd (true_and_false e refl), λ d. absurd (none_differ c.args.count (map transition_of c.args.transitions.now) c.loop-transition.transition-index all c.loop-transition.invariant d))
