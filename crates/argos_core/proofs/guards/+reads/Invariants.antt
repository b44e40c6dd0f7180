use Rattle.std.proofs.Common.{◌≡◌, map, drop}
use Rattle.argos_core.specs.Guards as meaning
use Rattle.argos_core.specs.Views.{guard_of, guards_of}
use Rattle.argos_core.proofs.guards.+reads.Given as goal

-- the guards that are left decide
abbrev pub invariant-any_reads-loop-guard : goal.invariant-any_reads-loop-guard
invariant-any_reads-loop-guard l = meaning.reads_some (guards_of (map guard_of (drop l.guard-index l.guards))) l.signal.0 ≡ meaning.reads_some (guards_of (map guard_of l.guards)) l.signal.0
