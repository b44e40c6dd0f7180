use Rattle.std.proofs.Common.{◌≡◌, ◌+◌}
use Rattle.dd_core.specs.inner.Tables.{slot_nodes, IsLinkedTo}
use Rattle.dd_core.proofs.table.link_all.Given as goal

abbrev pub invariant-loop-place : goal.invariant-loop-place
invariant-loop-place l = record {
  nodes : slot_nodes l.slots ≡ slot_nodes l.fn.slots;
  linked : IsLinkedTo (l.place + 2) l.slots l.heads;
}
