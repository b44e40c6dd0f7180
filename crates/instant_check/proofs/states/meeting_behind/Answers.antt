use Rattle.std.proofs.Common.{◌+◌, length, sym, ◌∙◌, arith, refl}
use Rattle.instant_check.proofs.Adding.{adds_in_turn, adds_one}
use Rattle.instant_check.proofs.FirstMeetings.{none_behind}
use Rattle.instant_check.proofs.Meetings.{guards_later, guard_at, guard_held, transition_within}
use Rattle.instant_check.proofs.Places.{nat_eq-true}
use Rattle.instant_check.proofs.TestDiagrams.{sized_numbers}
use Rattle.instant_check.proofs.states.meeting_behind.Goals as goal

pub and-requires-clause-held_f : goal.and-requires-clause-held_f
and-requires-clause-held_f c = guard_held c.args.transitions.now c.args.first (record { 0 = 0 }) c.requires.guards c.requires.inside

pub returns-then-eq-clause-found : goal.returns-then-eq-clause-found
returns-then-eq-clause-found c =
    let ts = c.args.transitions.now in
    let t = transition_within ts c.args.first c.requires.inside in
    none_behind c.args.first (c.args.first + 1) t.0 refl (sized_numbers c.args.signals.now _ c.requires.sized) t.1
    (guard_at ts c.args.first (record { 0 = 0 }) t.0 c.requires.guards c.requires.inside t.1)
    c.requires.later c.in_ok-met.ensures.made (nat_eq-true c.in_ok-met.met.0 0 (sym c.eq.ensures ∙ c.if-eq.true))

pub first_after-requires-clause-guards : goal.first_after-requires-clause-guards
first_after-requires-clause-guards c = guards_later (sized_numbers c.args.signals.now _ c.requires.sized) c.and.ensures.made.keeps c.requires.guards

pub returns-clause-adds : goal.returns-clause-adds
returns-clause-adds c =
    let n = length c.args.transitions.now in
    adds_in_turn 1 n (n + 1) (omega arith) (adds_one c.and.ensures.made) c.first_after.ensures.adds
