use Rattle.std.proofs.Common.{length}
use Rattle.dd_core.specs.inner.Adding.{by_id}
use Rattle.dd_core.specs.inner.Tables.{slot_nodes}
use Rattle.dd_core.proofs.Tables.{IsChainFrom}
use Rattle.dd_core.proofs.table.Table.chain.Given as goal

abbrev pub invariant-loop-slot : goal.invariant-loop-slot
invariant-loop-slot l = IsChainFrom (by_id (slot_nodes l.self-inside.slots.items)) (length l.self-inside.heads.items) l.bucket l.id.0 l.ids.items

abbrev pub decreases-loop-slot : goal.decreases-loop-slot
decreases-loop-slot l = l.id.0
