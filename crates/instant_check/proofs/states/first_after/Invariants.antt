use Rattle.std.proofs.Common.{map}
use Rattle.argos_core.specs.Views.{transition_of}
use Rattle.instant_check.proofs.FirstMeetings.{NoneSoFar}
use Rattle.instant_check.proofs.states.first_after.Given as goal

abbrev pub invariant-loop-second : goal.invariant-loop-second
invariant-loop-second l = NoneSoFar l.count (map transition_of l.transitions) l.fn.arena l.arena l.first l.second
