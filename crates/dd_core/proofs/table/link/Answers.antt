use Rattle.std.proofs.Common.{◌≡◌, ◌+◌, ◌<◌, Some, length, set, get_or, sym, ap, ◌∙◌, subst, List, ℕ}
use Rattle.std.specs.List.{slice_get}
use Rattle.std.proofs.lemmas.Option.{slice_get-get_or}
use Rattle.dd_core.specs.declared.nodes.NodeId.{NodeId}
use Rattle.dd_core.specs.declared.table.Slot.{Slot}
use Rattle.dd_core.specs.Chains.{bucket_of}
use Rattle.dd_core.specs.inner.Tables.{slot_nodes, IsLinkedTo}
use Rattle.dd_core.proofs.Tables.{same_nodes, linked_more}
use Rattle.dd_core.proofs.table.link.Goals as goal

module _ (slots : List Slot) (firsts : List NodeId) (k b : ℕ) (within : k < length slots) (below : b < length firsts) where
  abbrev slot : Slot
  slot = get_or slots k (record { node = record { variable = 0; low = record { 0 = 0 }; high = record { 0 = 0 } }; next = record { 0 = 0 } })

  abbrev head : NodeId
  head = get_or firsts b (record { 0 = 0 })

  is : slice_get slots k ≡ Some slot
  is = slice_get-get_or slots k (record { node = record { variable = 0; low = record { 0 = 0 }; high = record { 0 = 0 } }; next = record { 0 = 0 } }) within

  at : slice_get firsts b ≡ Some head
  at = slice_get-get_or firsts b (record { 0 = 0 }) below

  nodes_stay : b ≡ bucket_of (length firsts) slot.node → IsLinkedTo (k + 2) slots firsts → slot_nodes (set slots k (record { node = slot.node; next = head })) ≡ slot_nodes slots
  nodes_stay bucket linked = same_nodes slots firsts k slot head is (ap (slice_get firsts) (sym bucket) ∙ at) linked

  links : b ≡ bucket_of (length firsts) slot.node → IsLinkedTo (k + 2) slots firsts → IsLinkedTo (k + 3) (set slots k (record { node = slot.node; next = head })) (set firsts b (record { 0 = k + 2 }))
  links bucket linked = subst (λ c. IsLinkedTo (k + 3) (set slots k (record { node = slot.node; next = head })) (set firsts c (record { 0 = k + 2 }))) (sym bucket)
      (linked_more slots firsts k slot head is (ap (slice_get firsts) (sym bucket) ∙ at) linked)

pub returns-clause-nodes : goal.returns-clause-nodes
returns-clause-nodes c = nodes_stay c.args.slots.now c.args.heads.now c.args.place c.bucket_of-bucket.result c.requires.place c.bucket_of-bucket.ensures.below c.bucket_of-bucket.ensures.value c.requires.linked

pub returns-clause-linked : goal.returns-clause-linked
returns-clause-linked c = links c.args.slots.now c.args.heads.now c.args.place c.bucket_of-bucket.result c.requires.place c.bucket_of-bucket.ensures.below c.bucket_of-bucket.ensures.value c.requires.linked
