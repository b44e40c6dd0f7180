use Rattle.std.proofs.Common.{◌≡◌, ◌≢◌, ◌+◌, ◌*◌, ◌<◌, ℕ, List, ◌++◌, ◌∷◌, [], length, take, drop, sym, ap, ◌∙◌, subst, arith}
use Rattle.std.proofs.lemmas.List.{length-map, length-append}
use Rattle.dd_core.specs.declared.nodes.NodeId.{NodeId}
use Rattle.dd_core.specs.declared.table.Slot.{Slot}
use Rattle.dd_core.specs.inner.Tables.{slot_nodes, IsLinkedTo, IsTable}
use Rattle.dd_core.proofs.Tables.{table_some, table_more, table_doubled, linked_push, written_back}
use Rattle.dd_core.proofs.table.Table.push.Goals as goal

-- the vectors after the slices were written to
two_back : (slots slots_after : List Slot) (firsts firsts_after : List NodeId) (m n : ℕ) → m ≡ length slots → n ≡ length firsts → IsTable slots firsts → IsTable (take m (slots ++ slots_after)) (take n (firsts ++ firsts_after))
two_back slots slots_after firsts firsts_after m n p q table =
    subst (λ xs. IsTable xs (take n (firsts ++ firsts_after))) (sym (written_back m slots slots_after p)) (subst (λ ys. IsTable slots ys) (sym (written_back n firsts firsts_after q)) table)

pub invariant_of-self-then-place-len : goal.invariant_of-self-then-place-len
invariant_of-self-then-place-len c =
    let s : Slot = record { node = c.args.node; next = record { 0 = 0 } } in
    let slots = c.self.inside.slots.items in let firsts = c.self.inside.heads.items in
    let given : c.deref_mut.result.now ≡ slots ++ s ∷ [] = c.deref_mut.ensures.value ∙ c.in_ok-push.ensures.items in
    let nodes : slot_nodes c.link_all.new.slots ≡ slot_nodes (slots ++ s ∷ []) = c.link_all.ensures.nodes ∙ ap slot_nodes given in
    let full : length slots + 2 ≡ length firsts = omega (arith, c.if-place-len.true, c.len-place.ensures, c.len.ensures) in
    let room : length slots + 2 < 16777216 = omega (arith, c.requires.room, ap length c.self.view_is, length-map slots (λ (t : Slot). t.node)) in
    let sized : length c.link_all.new.heads ≡ 2 * length firsts = omega (arith, c.link_all.auto.heads, c.deref_mut-then-place-len.ensures.len, c.in_ok-heads.ensures.len, c.len-then-place-len.ensures) in
    let end : length c.deref_mut.result.now + 2 ≡ length slots + 3 = omega (arith, ap length given, length-append slots (s ∷ [])) in
    let linked = subst (λ n. IsLinkedTo n c.link_all.new.slots c.link_all.new.heads) end c.link_all.ensures.linked in
    two_back c.link_all.new.slots (drop (length c.link_all.new.slots) c.push.new.self.items) c.link_all.new.heads (drop (length c.link_all.new.heads) c.in_ok-heads.heads.items) c.push.new.self.len c.in_ok-heads.heads.len
    (omega (arith, c.link_all.auto.slots, c.deref_mut.ensures.len)) (omega (arith, c.link_all.auto.heads, c.deref_mut-then-place-len.ensures.len))
    (table_doubled slots firsts c.link_all.new.heads s c.link_all.new.slots c.self.invariant full room nodes sized linked)

pub link-requires-clause-some : goal.link-requires-clause-some
link-requires-clause-some c = omega (arith, table_some c.self.inside.slots.items c.self.inside.heads.items c.self.invariant, c.deref_mut-else-place-len-2.ensures.len)

pub link-requires-clause-linked : goal.link-requires-clause-linked
link-requires-clause-linked c =
    let s : Slot = record { node = c.args.node; next = record { 0 = 0 } } in
    let slots = c.self.inside.slots.items in let firsts = c.self.inside.heads.items in
    let linked = linked_push slots firsts s c.self.invariant.linked in
    let p = subst (λ (xs : List Slot). IsLinkedTo (length slots + 2) xs firsts) (sym (c.deref_mut-else-place-len.ensures.value ∙ c.in_ok-push-2.ensures.items)) linked in
    let q = subst (λ (xs : List NodeId). IsLinkedTo (length slots + 2) c.deref_mut-else-place-len.result.now xs) (sym c.deref_mut-else-place-len-2.ensures.value) p in
    let place : length slots + 2 ≡ c.len-place.result + 2 = omega (arith, c.len-place.ensures) in
    subst (λ n. IsLinkedTo n c.deref_mut-else-place-len.result.now c.deref_mut-else-place-len-2.result.now) place q

pub invariant_of-self-else-place-len : goal.invariant_of-self-else-place-len
invariant_of-self-else-place-len c =
    let s : Slot = record { node = c.args.node; next = record { 0 = 0 } } in
    let slots = c.self.inside.slots.items in let firsts = c.self.inside.heads.items in
    let given : c.deref_mut-else-place-len.result.now ≡ slots ++ s ∷ [] = c.deref_mut-else-place-len.ensures.value ∙ c.in_ok-push-2.ensures.items in
    let nodes : slot_nodes c.link.new.slots ≡ slot_nodes (slots ++ s ∷ []) = c.link.ensures.nodes ∙ ap slot_nodes given in
    let not_full : length slots + 2 ≢ length firsts = λ e. absurd (omega (arith, c.if-place-len.false, c.len-place.ensures, c.len.ensures, e)) in
    let room : length slots + 2 < 16777216 = omega (arith, c.requires.room, ap length c.self.view_is, length-map slots (λ (t : Slot). t.node)) in
    let sized : length c.link.new.heads ≡ length firsts = omega (arith, c.link.auto.heads, c.deref_mut-else-place-len-2.ensures.len) in
    let end : c.len-place.result + 3 ≡ length slots + 3 = omega (arith, c.len-place.ensures) in
    let linked = subst (λ n. IsLinkedTo n c.link.new.slots c.link.new.heads) end c.link.ensures.linked in
    two_back c.link.new.slots (drop (length c.link.new.slots) c.push-else-place-len.new.self.items) c.link.new.heads (drop (length c.link.new.heads) c.self.inside.heads.items) c.push-else-place-len.new.self.len c.self.inside.heads.len
    (omega (arith, c.link.auto.slots, c.deref_mut-else-place-len.ensures.len)) (omega (arith, c.link.auto.heads, c.deref_mut-else-place-len-2.ensures.len))
    (table_more slots firsts c.link.new.heads s c.link.new.slots c.self.invariant not_full room nodes sized linked)
