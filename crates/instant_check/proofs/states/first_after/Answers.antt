use Rattle.std.proofs.Common.{length}
use Rattle.instant_check.proofs.FirstMeetings.{none_more, none_fails, none_all}
use Rattle.instant_check.proofs.Meetings.{guards_later, match_none}
use Rattle.instant_check.proofs.TestDiagrams.{sized_numbers}
use Rattle.instant_check.proofs.states.first_after.Goals as goal

pub least_meeting-requires-clause-guards : goal.least_meeting-requires-clause-guards
least_meeting-requires-clause-guards c = guards_later (sized_numbers c.args.signals.now _ c.requires.sized) c.loop-second.invariant.adds.keeps c.requires.guards

pub returns-in_err-met-clause-adds : goal.returns-in_err-met-clause-adds
returns-in_err-met-clause-adds c = none_fails (length c.args.transitions.now) c.loop-second-test.true c.loop-second.invariant c.least_meeting.ensures.adds

pub returns-in-Some-clause-adds : goal.returns-in-Some-clause-adds
returns-in-Some-clause-adds c = none_fails (length c.args.transitions.now) c.loop-second-test.true c.loop-second.invariant c.least_meeting.ensures.adds

pub loop-second-preserved : goal.loop-second-preserved
loop-second-preserved c = none_more c.loop-second.invariant c.least_meeting.ensures.adds (match_none c.in_ok-met.met _ c.in_default.is c.in_ok-met.ensures.found)

pub returns-clause-found : goal.returns-clause-found
returns-clause-found c = none_all c.args.transitions.now c.loop-second-test.false c.loop-second.invariant
