use Rattle.std.proofs.Common.{◌≡◌, ◌+◌, ◌-◌, ◌<◌, length, sym, subst, ◌∙◌, arith, refl, ℕ, map, Option}
use Rattle.instant_check.specs.declared.states.Meeting.{Meeting}
use Rattle.instant_check.proofs.Adding.{adds_one}
use Rattle.argos_core.specs.Views.{transition_of, numbers}
use Rattle.instant_check.specs.inner.Meeting.{Covers}
use Rattle.instant_check.proofs.FirstMeetings.{meeting_none, behind_fails, union_fails, meeting_more, meeting_adds, MeetingSoFar, IsFound}
use Rattle.instant_check.proofs.Meetings.{guards_later, guard_at, guard_held, transition_within}
use Rattle.instant_check.proofs.TestDiagrams.{sized_numbers, test_later}
use Rattle.instant_check.proofs.states.first_meeting.Goals as goal

pub loop-left-init : goal.loop-left-init
loop-left-init c = meeting_none c.args.count (numbers c.args.signals.now) c.args.transitions.now c.args.arena.now (length c.args.transitions.now) refl c.variables.ensures.arena

pub meeting_behind-requires-clause-guards : goal.meeting_behind-requires-clause-guards
meeting_behind-requires-clause-guards c = guards_later (sized_numbers c.args.signals.now _ c.requires.sized) c.loop-left.invariant.adds.keeps c.requires.guards

pub meeting_behind-requires-clause-later : goal.meeting_behind-requires-clause-later
meeting_behind-requires-clause-later c =
    let e : c.loop-left.left ≡ c.loop-left.left - 1 + 1 = omega arith in
    subst (λ (k : ℕ). Covers c.loop-left.arena c.loop-left.later.0 (numbers c.args.signals.now) (map transition_of c.args.transitions.now) k) e c.loop-left.invariant.covers

pub returns-in_err-behind-clause-adds : goal.returns-in_err-behind-clause-adds
returns-in_err-behind-clause-adds c = behind_fails c.args.transitions.now (c.loop-left.left - 1) c.loop-left.left (omega arith) c.loop-left.invariant c.meeting_behind.ensures.adds

pub or-requires-clause-held_f : goal.or-requires-clause-held_f
or-requires-clause-held_f c =
    let below : c.loop-left.left - 1 < length c.args.transitions.now = omega (arith, c.loop-left.invariant.bound) in
    let held = guard_held c.args.transitions.now (c.loop-left.left - 1) (record { 0 = 0 }) c.requires.guards below in
    c.meeting_behind.ensures.adds.keeps.held _ (c.loop-left.invariant.adds.keeps.held _ held)

pub or-requires-clause-held_g : goal.or-requires-clause-held_g
or-requires-clause-held_g c = c.meeting_behind.ensures.adds.keeps.held c.loop-left.later.0 c.loop-left.invariant.covers.held

pub returns-in_err-later-clause-adds : goal.returns-in_err-later-clause-adds
returns-in_err-later-clause-adds c = union_fails c.args.transitions.now (c.loop-left.left - 1) c.loop-left.left (omega arith) c.loop-left.invariant c.meeting_behind.ensures.adds (adds_one c.or.ensures.made)

pub loop-left-preserved : goal.loop-left-preserved
loop-left-preserved c =
    let ts = c.args.transitions.now in
    let left = c.loop-left.left - 1 in
    let below : left < length ts = omega (arith, c.loop-left.invariant.bound) in
    let t = transition_within ts left below in
    let sized_a = sized_numbers c.args.signals.now _ c.requires.sized in
    let sized_b : length (numbers c.args.signals.now) ≡ c.loop-left.arena.variables = sized_a ∙ sym c.loop-left.invariant.adds.keeps.variables in
    let denotes = guard_at ts left (record { 0 = 0 }) t.0 c.requires.guards below t.1 in
    subst (λ (found : Option Meeting). MeetingSoFar c.args.count (numbers c.args.signals.now) ts c.args.arena.now c.or.new.self left c.in_ok-later.later.0 found) (sym c.or-found.ensures)
    (meeting_more c.in_ok-behind.behind ts left c.loop-left.left t.0 (omega arith) sized_a t.1 c.loop-left.invariant c.meeting_behind.ensures.adds c.in_ok-behind.ensures.found
    (test_later sized_b c.meeting_behind.ensures.adds.keeps (test_later sized_a c.loop-left.invariant.adds.keeps denotes)) c.in_ok-later.ensures.made)

pub returns-clause-adds : goal.returns-clause-adds
returns-clause-adds c = meeting_adds c.args.transitions.now c.loop-left.invariant

pub returns-clause-found : goal.returns-clause-found
returns-clause-found c =
    let zero : c.loop-left.left ≡ 0 = omega (arith, c.loop-left-test.false) in
    subst (λ (k : ℕ). IsFound c.args.count (numbers c.args.signals.now) (map transition_of c.args.transitions.now) k c.loop-left.found) zero c.loop-left.invariant.best
