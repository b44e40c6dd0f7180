use Rattle.std.proofs.Common.{◌≡◌, ◌-◌, Some, length, sym, ap, ◌∙◌, arith}
use Rattle.std.specs.List.{slice_get}
use Rattle.std.proofs.lemmas.Option.{slice_get_read}
use Rattle.dd_core.specs.Chains.{bucket_of}
use Rattle.dd_core.specs.Diagrams.{node_at}
use Rattle.dd_core.specs.inner.Adding.{by_id}
use Rattle.dd_core.proofs.Tables.{table_some, node_of_slot, sought_first, sought_next, same_triple, other_triple}
use Rattle.dd_core.proofs.table.Table.find.Goals as goal
use Rattle.dd_core.proofs.table.Table.find.Goals.{In-Some}

slot_is : (c : In-Some) → slice_get c.self.inside.slots.items (c.loop-slot.at.0 - 2) ≡ Some c.in-Some.slot
slot_is c = ap (λ xs. slice_get xs (c.loop-slot.at.0 - 2)) (sym c.deref.ensures.value) ∙ c.in-Some.ensures.some.1

pub bucket_of-requires : goal.bucket_of-requires
bucket_of-requires c = omega (arith, table_some c.self.inside.slots.items c.self.inside.heads.items c.self.invariant)

pub loop-slot-init : goal.loop-slot-init
loop-slot-init c =
    let firsts = c.self.inside.heads.items in
    let count : c.len.result ≡ length firsts = omega (arith, c.len.ensures) in
    let bucket : c.bucket_of.result ≡ bucket_of (length firsts) c.args.node = c.bucket_of.ensures.value ∙ ap (λ n. bucket_of n c.args.node) count in
    sought_first c.self.inside.slots.items firsts c.self.invariant.linked c.args.node c.index-at.result.now
    (ap (slice_get firsts) (sym bucket) ∙ slice_get_read firsts c.len.result c.bucket_of.result c.index-at.result.now count c.bucket_of.ensures.below c.index-at.ensures)

pub returns-then-eq-clause-found : goal.returns-then-eq-clause-found
returns-then-eq-clause-found c =
    let some = c.in-Some.ensures.some in
    ap (λ ns. node_at (by_id ns) c.loop-slot.at.0) (sym c.self.view_is)
    ∙ node_of_slot c.self.inside.slots.items c.loop-slot.at.0 c.in-Some.slot some.0 (slot_is (goal.at.returns-then-eq-clause-found c).In-Some)
    ∙ ap Some (same_triple c.in-Some.slot.node c.args.node (sym c.eq.ensures ∙ c.if-eq.true))

pub loop-slot-preserved : goal.loop-slot-preserved
loop-slot-preserved c =
    sought_next c.self.inside.slots.items c.self.inside.heads.items c.self.invariant.linked c.args.node (c.loop-slot.at.0) c.in-Some.slot c.in-Some.ensures.some.0
    (slot_is (goal.at.loop-slot-preserved c).In-Some) (other_triple c.in-Some.slot.node c.args.node (sym c.eq.ensures ∙ c.if-eq.false)) c.loop-slot.invariant
