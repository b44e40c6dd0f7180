use Rattle.std.proofs.Common.{◌≡◌, ◌+◌, ◌-◌, ℕ, List, Some, None, length, sym, ap, ◌∙◌, subst, arith}
use Rattle.std.specs.List.{slice_get}
use Rattle.std.proofs.lemmas.Option.{slice_get_read}
use Rattle.dd_core.specs.declared.nodes.Node.{Node}
use Rattle.dd_core.specs.declared.nodes.NodeId.{NodeId}
use Rattle.dd_core.specs.declared.table.Slot.{Slot}
use Rattle.dd_core.specs.Chains.{bucket_count, IsChain}
use Rattle.dd_core.specs.Diagrams.{node_at}
use Rattle.dd_core.specs.inner.Adding.{by_id}
use Rattle.dd_core.specs.inner.Tables.{slot_nodes}
use Rattle.dd_core.proofs.Tables.{IsChainFrom, chain_first, chain_next, chain_all, table_buckets}
use Rattle.dd_core.proofs.table.Table.chain.Goals as goal

pub loop-slot-init : goal.loop-slot-init
loop-slot-init c =
    let slots = c.self.inside.slots.items in let firsts = c.self.inside.heads.items in
    let count : length firsts ≡ bucket_count (length c.args.self.now + 2) = table_buckets slots firsts c.args.self.now c.self.invariant c.self.view_is in
    let first = chain_first slots firsts c.self.invariant.linked c.args.bucket c.index-id.result.now
    (slice_get_read firsts (length firsts) c.args.bucket c.index-id.result.now (Rattle.std.proofs.Common.refl) (omega (arith, count)) c.index-id.ensures) in
    subst (λ (ids : List NodeId). IsChainFrom (by_id (slot_nodes slots)) (length firsts) c.args.bucket c.index-id.result.now.0 ids) (sym c.new-ids.ensures.items) first

pub loop-slot-preserved : goal.loop-slot-preserved
loop-slot-preserved c =
    let slots = c.self.inside.slots.items in let firsts = c.self.inside.heads.items in
    let slot_is : slice_get slots (c.loop-slot.id.0 - 2) ≡ Some c.in-Some.slot = ap (λ xs. slice_get xs (c.loop-slot.id.0 - 2)) (sym c.deref.ensures.value) ∙ c.in-Some.ensures.some.1 in
    let next = chain_next slots firsts c.self.invariant.linked c.args.bucket c.loop-slot.id c.in-Some.slot c.loop-slot.ids.items c.in-Some.ensures.some.0 slot_is c.loop-slot.invariant in
    subst (λ (ids : List NodeId). IsChainFrom (by_id (slot_nodes slots)) (length firsts) c.args.bucket c.in-Some.slot.next.0 ids) (sym c.in_ok-push.ensures.items) next

pub returns : goal.returns
returns c =
    let slots = c.self.inside.slots.items in let firsts = c.self.inside.heads.items in
    let count : length firsts ≡ bucket_count (length c.args.self.now + 2) = table_buckets slots firsts c.args.self.now c.self.invariant c.self.view_is in
    let none : node_at (by_id (slot_nodes slots)) c.loop-slot.id.0 ≡ None = ap (λ (xs : List Slot). node_at (by_id (slot_nodes xs)) c.loop-slot.id.0) (sym c.deref.ensures.value) ∙ c.in_default.ensures.none in
    let all = chain_all slots firsts c.self.invariant.linked c.args.bucket c.loop-slot.id.0 c.loop-slot.ids.items none c.loop-slot.invariant in
    subst (λ n. IsChain (by_id c.args.self.now) n c.args.bucket c.loop-slot.ids.items) count
    (subst (λ (ns : List Node). IsChain (by_id ns) (length firsts) c.args.bucket c.loop-slot.ids.items) c.self.view_is all)
