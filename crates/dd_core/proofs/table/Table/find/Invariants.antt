use Rattle.std.proofs.Common.{length}
use Rattle.dd_core.specs.inner.Adding.{by_id}
use Rattle.dd_core.specs.inner.Tables.{slot_nodes}
use Rattle.dd_core.proofs.Tables.{IsSought}
use Rattle.dd_core.proofs.table.Table.find.Given as goal

abbrev pub invariant-loop-slot : goal.invariant-loop-slot
invariant-loop-slot l = IsSought (by_id (slot_nodes l.self-inside.slots.items)) (length l.self-inside.heads.items) l.node l.at.0

abbrev pub decreases-loop-slot : goal.decreases-loop-slot
decreases-loop-slot l = l.at.0
