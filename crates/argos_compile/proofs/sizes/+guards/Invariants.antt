use Rattle.std.proofs.Common.{◌≡◌, ◌+◌, map, drop}
use Rattle.argos_core.specs.Sizes.{guards_size}
use Rattle.argos_core.specs.Views.{guard_of, guards_of}
use Rattle.argos_compile.proofs.sizes.+guards.Given as goal

abbrev pub invariant-guards_size-loop-guard : goal.invariant-guards_size-loop-guard
invariant-guards_size-loop-guard l = l.size + guards_size (guards_of (map guard_of (drop l.guard-index l.guards))) ≡ guards_size (guards_of (map guard_of l.guards))
