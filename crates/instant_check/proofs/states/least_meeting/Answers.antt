use Rattle.std.proofs.Common.{◌≡◌, length, sym, ◌∙◌}
use Rattle.argos_core.specs.Views.{transition_of, numbers}
use Rattle.instant_check.proofs.EffectLists.{true_and_false}
use Rattle.instant_check.proofs.Meetings.{transition_here, guard_held, joined, never_constant, never_alike, never_false, meeting_found, match_weaker}
use Rattle.instant_check.proofs.Places.{nat_eq-true}
use Rattle.instant_check.proofs.TestDiagrams.{sized_numbers}
use Rattle.instant_check.proofs.states.least_meeting.Goals as goal
use Rattle.instant_check.proofs.states.least_meeting.Goals.{then-eq-via-then-eq, then-eq-via-else-eq+then-have_one_effect}

pub and-requires-clause-held_f : goal.and-requires-clause-held_f
and-requires-clause-held_f c = guard_held c.args.transitions.now c.args.first (record { 0 = 0 }) c.requires.guards c.requires.first

pub and-requires-clause-held_g : goal.and-requires-clause-held_g
and-requires-clause-held_g c = guard_held c.args.transitions.now c.args.second (record { 0 = 0 }) c.requires.guards c.requires.second

pub returns-then-eq-clause-found : goal.returns-then-eq-clause-found
returns-then-eq-clause-found c =
    let ts = c.args.transitions.now in
    let made = c.in_ok-both.ensures.made in
    elim c.then-eq.branch [
      | then-eq-via-then-eq w ↦
          never_constant made.arena (joined c.args.signals.now ts c.args.first c.args.second (record { 0 = 0 }) (record { 0 = 0 }) c.requires.sized c.requires.guards c.requires.first c.requires.second made)
          (nat_eq-true c.in_ok-both.both.0 0 (sym c.eq.ensures ∙ w.if-eq.true))
      | then-eq-via-else-eq+then-have_one_effect w ↦
          never_alike (transition_of w.index-transitions-first.result) (transition_of w.index-transitions-second.result)
          (transition_here ts c.args.first w.index-transitions-first.result c.requires.first w.index-transitions-first.is)
          (transition_here ts c.args.second w.index-transitions-second.result c.requires.second w.index-transitions-second.is)
          (w.have_one_effect.ensures.0 w.if-have_one_effect.true)
    ]

pub returns-clause-found : goal.returns-clause-found
returns-clause-found c =
    let ts = c.args.transitions.now in
    let made = c.in_ok-both.ensures.made in
    let sized : length (numbers c.args.signals.now) ≡ c.and.new.self.variables = sized_numbers c.args.signals.now _ (c.requires.sized ∙ sym made.keeps.variables) in
    let joins = joined c.args.signals.now ts c.args.first c.args.second (record { 0 = 0 }) (record { 0 = 0 }) c.requires.sized c.requires.guards c.requires.first c.requires.second made in
    match_weaker c.in_ok-least.field-0
    (never_false sized joins)
    (λ values least. meeting_found (transition_of c.index-transitions-first.result) (transition_of c.index-transitions-second.result) sized joins
    (transition_here ts c.args.first c.index-transitions-first.result c.requires.first c.index-transitions-first.is)
    (transition_here ts c.args.second c.index-transitions-second.result c.requires.second c.index-transitions-second.is)
    (λ alike. true_and_false (c.have_one_effect.ensures.1 alike) c.if-have_one_effect.false)
    least)
    c.in_ok-least.ensures
