use Rattle.std.proofs.Common.{◌≡◌, ◌+◌, drop, map}
use Rattle.argos_core.specs.Views as core
use Rattle.argos_expansion.specs.inner.Renaming.{guards_size}
use Rattle.argos_expansion.proofs.renaming.+nodes.Given as goal

-- the nodes so far, and those of the operands that are left
abbrev pub invariant-nodes_of-loop-form : goal.invariant-nodes_of-loop-form
invariant-nodes_of-loop-form l = l.count + guards_size (core.guards_of (map core.guard_of (drop l.form-index l.forms))) ≡ guards_size (core.guards_of (map core.guard_of l.forms))
