use Rattle.argos_core.specs.Views.{numbers}
use Rattle.instant_check.proofs.FirstMeetings.{MeetingSoFar}
use Rattle.instant_check.proofs.states.first_meeting.Given as goal

abbrev pub invariant-loop-left : goal.invariant-loop-left
invariant-loop-left l = MeetingSoFar l.count (numbers l.signals) l.transitions l.fn.arena l.arena l.left l.later.0 l.found

abbrev pub decreases-loop-left : goal.decreases-loop-left
decreases-loop-left l = l.left
