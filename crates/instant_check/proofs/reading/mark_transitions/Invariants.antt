use Rattle.std.proofs.Common.{map, drop}
use Rattle.argos_core.specs.Overlaps.{some_reads}
use Rattle.argos_core.specs.Views.{transition_of}
use Rattle.instant_check.proofs.Marks.{IsMarkedSoFar}
use Rattle.instant_check.proofs.reading.mark_transitions.Given as goal

-- what is marked, and what the transitions that are left read, is all
abbrev pub invariant-loop-transition : goal.invariant-loop-transition
invariant-loop-transition l = IsMarkedSoFar (some_reads (map transition_of (drop l.transition-index l.transitions))) (some_reads (map transition_of l.transitions)) l.fn.read l.read
