use Rattle.std.proofs.Common.{◌≡◌, ℕ, List, true, Err, length, map, sym, ap, ◌∙◌, subst, arith}
use Rattle.std.proofs.lemmas.List.{length-map}
use Rattle.argos_base.specs.SignalSets.{lists}
use Rattle.argos_base.specs.declared.signals.SigId.{SigId}
use Rattle.argos_core.specs.Views.{transition_of, numbers}
use Rattle.argos_core.specs.Overlaps.{some_reads}
use Rattle.dd_core.specs.Arenas.{ArenaView, IsEmpty, HasNoRoom}
use Rattle.instant_check.specs.Telling.{AreAmong}
use Rattle.instant_check.specs.Reading.{signals_read}
use Rattle.instant_check.specs.StateOverlaps.{IsStopped}
use Rattle.instant_check.proofs.LeastOverlaps.{no_overlap, told_overlap, read-small, read-few, read-all, stopped}
use Rattle.instant_check.proofs.Meetings.{match_none, match_some}
use Rattle.instant_check.proofs.job.state_overlap.Goals as goal

pub overflow_cast-len : goal.overflow_cast-len
overflow_cast-len c =
    let ts = map transition_of c.args.transitions.now in
    let few = read-few c.args.count ts in
    let same : length (numbers c.in_ok-signals.signals.items) ≡ length (signals_read c.args.count ts) = ap length c.in_ok-signals.ensures in
    let many : length (numbers c.in_ok-signals.signals.items) ≡ length c.in_ok-signals.signals.items = length-map c.in_ok-signals.signals.items (λ (z : SigId). z.0) in
    omega (arith, few, same, many, c.len.ensures, c.in_ok-signals.signals.ok.0)

pub find_meeting-requires-clause-read : goal.find_meeting-requires-clause-read
find_meeting-requires-clause-read c =
    let ts = map transition_of c.args.transitions.now in
    subst (λ (l : List ℕ). AreAmong (some_reads ts) l) (sym (ap numbers c.deref.ensures.value ∙ c.in_ok-signals.ensures)) (read-all c.args.count ts c.requires.read)

pub returns-in-Err-Budget-clause-budget : goal.returns-in-Err-Budget-clause-budget
returns-in-Err-Budget-clause-budget c = λ arena e.
    let ts = map transition_of c.args.transitions.now in
    let same_arena : c.find_meeting.new.arena ≡ arena = cc in
    let same : length (numbers c.in_ok-signals.signals.items) ≡ length (signals_read c.args.count ts) = ap length c.in_ok-signals.ensures in
    let many : length (numbers c.in_ok-signals.signals.items) ≡ length c.in_ok-signals.signals.items = length-map c.in_ok-signals.signals.items (λ (z : SigId). z.0) in
    let variables : c.len.result ≡ length (signals_read c.args.count ts) = omega (arith, same, many, c.len.ensures, c.in_ok-signals.signals.ok.0) in
    let empty : IsEmpty (length (signals_read c.args.count ts)) c.args.budget c.in_ok-arena.arena = subst (λ (v : ℕ). IsEmpty v c.args.budget c.in_ok-arena.arena) variables c.in_ok-arena.ensures.empty in
    let room : HasNoRoom c.find_meeting.new.arena = c.find_meeting.ensures.budget (c.in-Err-Budget.is ∙ ap Err c.in-Err-Budget.field-0-is) in (
      c.some_differ.ensures.0 c.if-not-some_differ.false,
      subst (λ (a : ArenaView). IsStopped c.args.count ts c.args.budget a) same_arena
          (stopped c.args.count c.args.budget (length c.args.transitions.now) ts (sym (length-map c.args.transitions.now transition_of)) empty c.find_meeting.ensures.adds room),
    )

pub returns-in-None-clause-found : goal.returns-in-None-clause-found
returns-in-None-clause-found c = no_overlap c.args.count (map transition_of c.args.transitions.now) (match_none c.in-Ok.found _ c.in-None.is c.in-Ok.ensures.found)

pub overlap_of-requires-clause-inside : goal.overlap_of-requires-clause-inside
overlap_of-requires-clause-inside c = λ k h.
    let ts = map transition_of c.args.transitions.now in
    read-small c.args.count ts k (subst (λ (l : List ℕ). lists l k ≡ true) (ap numbers c.deref-in-Some.ensures.value ∙ c.in_ok-signals.ensures) h)

pub returns-clause-found : goal.returns-clause-found
returns-clause-found c =
    told_overlap (ap numbers c.deref.ensures.value ∙ c.in_ok-signals.ensures) (ap numbers c.deref-in-Some.ensures.value ∙ c.in_ok-signals.ensures)
    (match_some c.in-Ok.found _ _ c.in-Some.meeting c.in-Some.is c.in-Ok.ensures.found)
    c.in_ok-overlap_of-in-Some.ensures.first c.in_ok-overlap_of-in-Some.ensures.second c.in_ok-overlap_of-in-Some.ensures.set
