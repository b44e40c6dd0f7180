use Rattle.std.proofs.Common.{◌-◌, sym, ap, ◌∙◌}
use Rattle.std.specs.List.{slice_get}
use Rattle.dd_core.specs.Diagrams.{node_at}
use Rattle.dd_core.specs.inner.Adding.{by_id}
use Rattle.dd_core.proofs.Tables.{node_of_slot}
use Rattle.dd_core.proofs.table.Table.node.Goals as goal

pub returns : goal.returns
returns c =
    let some = c.in_ok-slot_of.ensures.some in
    sym (ap (λ ns. node_at (by_id ns) c.args.f.0) (sym c.self.view_is)
    ∙ node_of_slot c.self.inside.slots.items c.args.f.0 c.in_ok-slot_of.field-0 some.0 (ap (λ xs. slice_get xs (c.args.f.0 - 2)) (sym c.deref.ensures.value) ∙ some.1))
