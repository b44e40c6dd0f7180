use Rattle.std.proofs.Common.{arith}
use Rattle.dd_core.proofs.Tables.{buckets_fit}
use Rattle.dd_core.proofs.table.Table.buckets.Goals as goal

pub overflow_cast-result : goal.overflow_cast-result
overflow_cast-result c = omega (arith, buckets_fit c.self.inside.slots.items c.self.inside.heads.items c.self.invariant)
