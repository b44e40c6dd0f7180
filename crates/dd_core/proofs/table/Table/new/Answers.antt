use Rattle.std.proofs.Common.{◌≡◌, length, arith}
use Rattle.dd_core.proofs.Tables.{table_none}
use Rattle.dd_core.proofs.table.Table.new.Goals as goal

pub invariant_of-result : goal.invariant_of-result
invariant_of-result c = table_none c.new.result.items c.in_ok-filled.field-0.items c.new.ensures.items (let sized : length c.in_ok-filled.field-0.items ≡ 256 = omega (arith, c.in_ok-filled.ensures.len) in sized) c.in_ok-filled.ensures.each
