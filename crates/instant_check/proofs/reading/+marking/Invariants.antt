use Rattle.std.proofs.Common.{map, drop}
use Rattle.argos_core.specs.Guards.{reads_some}
use Rattle.argos_core.specs.Views.{guard_of, guards_of}
use Rattle.instant_check.proofs.Marks.{IsMarkedSoFar}
use Rattle.instant_check.proofs.reading.+marking.Given as goal

-- what is marked, and what the guards that are left read, is all
abbrev pub invariant-mark_guards-loop-guard : goal.invariant-mark_guards-loop-guard
invariant-mark_guards-loop-guard l = IsMarkedSoFar (reads_some (guards_of (map guard_of (drop l.guard-index l.guards)))) (reads_some (guards_of (map guard_of l.guards))) l.fn.read l.read
