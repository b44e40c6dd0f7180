use Rattle.std.proofs.Common.{◌≡◌, map, drop}
use Rattle.argos_core.specs.Guards as meaning
use Rattle.argos_core.specs.Views.{guard_of, guards_of}
use Rattle.argos_core.proofs.guards.+holds.Given as goal

-- the guards that are left decide
abbrev pub invariant-all_hold-loop-guard : goal.invariant-all_hold-loop-guard
invariant-all_hold-loop-guard l = meaning.every (guards_of (map guard_of (drop l.guard-index l.guards))) l.present ≡ meaning.every (guards_of (map guard_of l.guards)) l.present

abbrev pub invariant-any_holds-loop-guard : goal.invariant-any_holds-loop-guard
invariant-any_holds-loop-guard l = meaning.some (guards_of (map guard_of (drop l.guard-index l.guards))) l.present ≡ meaning.some (guards_of (map guard_of l.guards)) l.present
