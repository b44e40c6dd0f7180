-- Chains through the nodes.
use Rattle.std.proofs.Common.{◌≡◌, ◌≢◌, ℕ, zero, suc, ◌+◌, ◌*◌, ◌-◌, ◌^◌, ◌<◌, ◌≤◌, List, [], ◌∷◌, ◌++◌, Option, Some, None, true, false, ◌&&◌, if◌then◌else◌, nat_eq, nat_lt, length, take, set, refl, sym, ap, ◌∙◌, subst, inl, inr, ◌⊎◌, arith}
use Rattle.std.specs.List.{slice_get}
use Rattle.std.proofs.lemmas.Bool.{cases_lt, cases_eq, and_parts, eq-eqb, false≢true}
use Rattle.std.proofs.lemmas.Map.Views.{exact_unsigned_eq}
use Rattle.std.proofs.lemmas.Bool.Decides.{nat_tests}
use Rattle.std.proofs.lemmas.List.{take-append-le, take_all, map-append, length-map, length-append, length-set}
use Rattle.std.proofs.lemmas.Option.{slice_get-map, slice_get_within, none-some, same_Some}
use Rattle.dd_core.specs.declared.nodes.Node.{Node}
use Rattle.dd_core.specs.declared.nodes.NodeId.{NodeId}
use Rattle.dd_core.specs.declared.table.Slot.{Slot}
use Rattle.dd_core.specs.Diagrams.{Nodes, node_at}
use Rattle.dd_core.specs.Chains.{bucket_of, grow, bucket_count, FallsInto, IsChain}
use Rattle.dd_core.specs.inner.Adding.{by_id, HasMore}
use Rattle.dd_core.specs.inner.Tables.{slot_nodes, IsLast, IsLinkedTo, IsTable}
use Rattle.dd_core.proofs.InTurn.{node_at-in_turn}
use Rattle.dd_core.proofs.Canonical.{one_triple}
use Rattle.dd_core.proofs.Extension.{push}
use Rattle.dd_core.proofs.Lists.{slice_get-append, slice_get-seam, slice_get-push_cases}

-- ---- nodes by id

pub slot_node : (slots : List Slot) (k : ℕ) (s : Slot) → slice_get slots k ≡ Some s → node_at (by_id (slot_nodes slots)) (k + 2) ≡ Some s.node
slot_node slots k s is =
    let e : k + 2 - 2 ≡ k = omega arith in
    node_at-in_turn 0 0 (k + 2) (slot_nodes slots) (omega arith) ∙ ap (slice_get (slot_nodes slots)) e ∙ slice_get-map (λ (t : Slot). t.node) slots k ∙ ap (λ o. Rattle.std.specs.Option.option_map (λ (t : Slot). t.node) o) is

pub node_of_slot : (slots : List Slot) (f : ℕ) (s : Slot) → 2 ≤ f → slice_get slots (f - 2) ≡ Some s → node_at (by_id (slot_nodes slots)) f ≡ Some s.node
node_of_slot slots f s past is = let e : f ≡ f - 2 + 2 = omega arith in ap (node_at (by_id (slot_nodes slots))) e ∙ slot_node slots (f - 2) s is

-- a node by id is one of the slots
pub slot_found : (slots : List Slot) (f : ℕ) (n : Node) → node_at (by_id (slot_nodes slots)) f ≡ Some n → (k : ℕ) × (s : Slot) × (f ≡ k + 2) × (slice_get slots k ≡ Some s) × (s.node ≡ n)
slot_found slots zero n is = absurd (none-some n is)
slot_found slots (suc zero) n is = absurd (none-some n is)
slot_found slots (suc (suc k)) n is =
    let e : suc (suc k) - 2 ≡ k = omega arith in
    let at : Rattle.std.specs.Option.option_map (λ (t : Slot). t.node) (slice_get slots k) ≡ Some n =
    sym (node_at-in_turn 0 0 (suc (suc k)) (slot_nodes slots) (omega arith) ∙ ap (slice_get (slot_nodes slots)) e ∙ slice_get-map (λ (t : Slot). t.node) slots k) ∙ is in
    of_option (slice_get slots k) refl at
  where
    of_option : (o : Option Slot) → slice_get slots k ≡ o → Rattle.std.specs.Option.option_map (λ (t : Slot). t.node) o ≡ Some n → (j : ℕ) × (s : Slot) × (suc (suc k) ≡ j + 2) × (slice_get slots j ≡ Some s) × (s.node ≡ n)
    of_option None o_is at = absurd (none-some n at)
    of_option (Some s) o_is at = (k, s, omega arith, o_is, same_Some s.node n at)

pub falls_at : (slots : List Slot) (buckets bucket k : ℕ) (s : Slot) → slice_get slots k ≡ Some s → bucket_of buckets s.node ≡ bucket → FallsInto (by_id (slot_nodes slots)) buckets bucket (k + 2)
falls_at slots buckets bucket k s is falls = (s.node, slot_node slots k s is, falls)

same_bucket : (slots : List Slot) (buckets bucket k : ℕ) (s : Slot) → slice_get slots k ≡ Some s → FallsInto (by_id (slot_nodes slots)) buckets bucket (k + 2) → bucket_of buckets s.node ≡ bucket
same_bucket slots buckets bucket k s is falls =
    let one : s.node ≡ falls.0 = same_Some s.node falls.0 (sym (slot_node slots k s is) ∙ falls.1) in
    ap (bucket_of buckets) one ∙ falls.2

-- an id that falls into a bucket is no constant
pub falls_past : (slots : List Slot) (buckets bucket f : ℕ) → FallsInto (by_id (slot_nodes slots)) buckets bucket f → 2 ≤ f
falls_past slots buckets bucket f falls = let at = slot_found slots f falls.0 falls.1 in omega (arith, at.2)

-- ---- the lists

slice_get-set_same : {X : Type 0} (xs : List X) (i : ℕ) (x : X) → i < length xs → slice_get (set xs i x) i ≡ Some x
slice_get-set_same [] i x h = absurd (omega arith)
slice_get-set_same (y ∷ xs) zero x h = refl
slice_get-set_same (y ∷ xs) (suc i) x h = slice_get-set_same xs i x (omega arith)

slice_get-set_other : {X : Type 0} (xs : List X) (i j : ℕ) (x : X) → j ≢ i → slice_get (set xs i x) j ≡ slice_get xs j
slice_get-set_other [] i j x other = refl
slice_get-set_other (y ∷ xs) zero zero x other = absurd (other refl)
slice_get-set_other (y ∷ xs) zero (suc j) x other = refl
slice_get-set_other (y ∷ xs) (suc i) zero x other = refl
slice_get-set_other (y ∷ xs) (suc i) (suc j) x other = slice_get-set_other xs i j x (λ e. other (ap suc e))

slot_nodes-set : (slots : List Slot) (k : ℕ) (s t : Slot) → slice_get slots k ≡ Some s → t.node ≡ s.node → slot_nodes (set slots k t) ≡ slot_nodes slots
slot_nodes-set [] k s t is same = refl
slot_nodes-set (r ∷ slots) zero s t is same = ap (λ n. n ∷ slot_nodes slots) (same ∙ ap (λ (x : Slot). x.node) (sym (same_Some r s is)))
slot_nodes-set (r ∷ slots) (suc k) s t is same = ap (λ ns. r.node ∷ ns) (slot_nodes-set slots k s t is same)

-- ---- one more node linked

IsLast-more : (nodes : Nodes) (buckets bucket end f : ℕ) → ¬ (FallsInto nodes buckets bucket end) → IsLast nodes buckets bucket end f → IsLast nodes buckets bucket (end + 1) f
IsLast-more nodes buckets bucket end f not_here is = record {
  found = elim is.found [ inl none ↦ inl none | inr some ↦ inr (some.0, omega (arith, some.1)) ];
  last = λ g falls below. elim (cases_eq g end) [
    | inl same ↦ absurd (not_here (subst (λ h. FallsInto nodes buckets bucket h) same falls))
    | inr other ↦ is.last g falls (omega arith)
  ];
}

module _ (slots : List Slot) (firsts : List NodeId) (k : ℕ) (s : Slot) (h : NodeId)
    (is : slice_get slots k ≡ Some s) (head : slice_get firsts (bucket_of (length firsts) s.node) ≡ Some h) (linked : IsLinkedTo (k + 2) slots firsts) where
  abbrev b : ℕ
  b = bucket_of (length firsts) s.node

  abbrev nodes : Nodes
  nodes = by_id (slot_nodes slots)

  abbrev linked_slot : Slot
  linked_slot = record { node = s.node; next = h }

  abbrev first : NodeId
  first = record { 0 = k + 2 }

  pub same_nodes : slot_nodes (set slots k linked_slot) ≡ slot_nodes slots
  same_nodes = slot_nodes-set slots k s linked_slot is refl

  new_heads : (bucket : ℕ) (g : NodeId) → slice_get (set firsts b first) bucket ≡ Some g → IsLast nodes (length firsts) bucket (k + 3) g.0
  new_heads bucket g at =
      elim (cases_eq bucket b) [
        | inl same ↦
            let e : first ≡ g = same_Some first g (sym (slice_get-set_same firsts b first (slice_get_within firsts b h head)) ∙ ap (slice_get (set firsts b first)) (sym same) ∙ at) in
            subst (λ (f : NodeId). IsLast nodes (length firsts) bucket (k + 3) f.0) e (record {
              found = inr (falls_at slots (length firsts) bucket k s is (sym same), omega arith);
              last = λ f falls below. omega arith;
            })
        | inr other ↦
            let old = linked.heads bucket g (sym (slice_get-set_other firsts b bucket first other) ∙ at) in
            let more = IsLast-more nodes (length firsts) bucket (k + 2) g.0 (λ falls. other (sym (same_bucket slots (length firsts) bucket k s is falls))) old in
            let e : k + 2 + 1 ≡ k + 3 = omega arith in
            subst (λ end. IsLast nodes (length firsts) bucket end g.0) e more
      ]

  new_links : (j : ℕ) (t : Slot) → j + 2 < k + 3 → slice_get (set slots k linked_slot) j ≡ Some t → IsLast nodes (length firsts) (bucket_of (length firsts) t.node) (j + 2) t.next.0
  new_links j t below at =
      elim (cases_eq j k) [
        | inl same ↦
            let e : linked_slot ≡ t = same_Some linked_slot t (sym (slice_get-set_same slots k linked_slot (slice_get_within slots k s is)) ∙ ap (slice_get (set slots k linked_slot)) (sym same) ∙ at) in
            subst (λ (r : Slot). IsLast nodes (length firsts) (bucket_of (length firsts) r.node) (j + 2) r.next.0) e
            (subst (λ i. IsLast nodes (length firsts) b (i + 2) h.0) (sym same) (linked.heads b h head))
        | inr other ↦ linked.links j t (omega arith) (sym (slice_get-set_other slots k j linked_slot other) ∙ at)
      ]

  -- the slot at place k put at the head of its chain
  pub linked_more : IsLinkedTo (k + 3) (set slots k linked_slot) (set firsts b first)
  linked_more =
      let sized : length (set firsts b first) ≡ length firsts = length-set firsts b first in
      record {
        heads = λ bucket g at. subst (λ ns. IsLast (by_id ns) (length (set firsts b first)) bucket (k + 3) g.0) (sym same_nodes) (subst (λ n. IsLast nodes n bucket (k + 3) g.0) (sym sized) (new_heads bucket g at));
        links = λ j t below at. subst (λ ns. IsLast (by_id ns) (length (set firsts b first)) (bucket_of (length (set firsts b first)) t.node) (j + 2) t.next.0) (sym same_nodes)
            (subst (λ n. IsLast nodes n (bucket_of n t.node) (j + 2) t.next.0) (sym sized) (new_links j t below at));
      }

-- no chain has a node
pub linked_none : (slots : List Slot) (firsts : List NodeId) → ((b : ℕ) (h : NodeId) → slice_get firsts b ≡ Some h → h.0 ≡ 0) → IsLinkedTo 2 slots firsts
linked_none slots firsts empty = record {
  heads = λ bucket h at. record {
    found = inl (empty bucket h at);
    last = λ g falls below. absurd (omega (arith, falls_past slots (length firsts) bucket g falls));
  };
  links = λ k s below is. absurd (omega arith);
}

-- ---- a node more behind the others

by_id-push : (ns : List Node) (n : Node) → by_id (ns ++ n ∷ []) ≡ by_id ns ++ Some n ∷ []
by_id-push ns n = ap (λ ys. None ∷ None ∷ ys) (map-append Some ns (n ∷ []))

node_at-push : (ns : List Node) (n : Node) (f : ℕ) → f < length ns + 2 → node_at (by_id (ns ++ n ∷ [])) f ≡ node_at (by_id ns) f
node_at-push ns n f below =
    let sized : length (by_id ns) ≡ length ns + 2 = omega (arith, length-map ns (λ (x : Node). Some x)) in
    let more : HasMore (by_id ns) (by_id ns ++ Some n ∷ []) (length (by_id ns)) n = push (by_id ns) n (omega arith) in
    ap (λ ys. node_at ys f) (by_id-push ns n) ∙ more.elsewhere f (λ e. absurd (omega arith))

IsLast-push : (ns : List Node) (n : Node) (buckets bucket end f : ℕ) → end ≤ length ns + 2 → IsLast (by_id ns) buckets bucket end f → IsLast (by_id (ns ++ n ∷ [])) buckets bucket end f
IsLast-push ns n buckets bucket end f within is = record {
  found = elim is.found [ inl none ↦ inl none | inr some ↦ inr ((some.0.0, node_at-push ns n f (omega (arith, some.1)) ∙ some.0.1, some.0.2), some.1) ];
  last = λ g falls below. is.last g (falls.0, sym (node_at-push ns n g (omega arith)) ∙ falls.1, falls.2) below;
}

slice_get-append_left : {X : Type 0} (xs ys : List X) (i : ℕ) → i < length xs → slice_get (xs ++ ys) i ≡ slice_get xs i
slice_get-append_left [] ys i h = absurd (omega arith)
slice_get-append_left (x ∷ xs) ys zero h = refl
slice_get-append_left (x ∷ xs) ys (suc i) h = slice_get-append_left xs ys i (omega arith)

slot_nodes-push : (slots : List Slot) (s : Slot) → slot_nodes (slots ++ s ∷ []) ≡ slot_nodes slots ++ s.node ∷ []
slot_nodes-push slots s = map-append (λ (t : Slot). t.node) slots (s ∷ [])

pub linked_push : (slots : List Slot) (firsts : List NodeId) (s : Slot) → IsLinkedTo (length slots + 2) slots firsts → IsLinkedTo (length slots + 2) (slots ++ s ∷ []) firsts
linked_push slots firsts s linked =
    let ns = slot_nodes slots in
    let sized : length ns ≡ length slots = length-map slots (λ (t : Slot). t.node) in
    let nodes_are : ns ++ s.node ∷ [] ≡ slot_nodes (slots ++ s ∷ []) = sym (slot_nodes-push slots s) in
    record {
      heads = λ bucket h at. subst (λ ms. IsLast (by_id ms) (length firsts) bucket (length slots + 2) h.0) nodes_are
          (IsLast-push ns s.node (length firsts) bucket (length slots + 2) h.0 (omega arith) (linked.heads bucket h at));
      links = λ k t below at. subst (λ ms. IsLast (by_id ms) (length firsts) (bucket_of (length firsts) t.node) (k + 2) t.next.0) nodes_are
          (IsLast-push ns s.node (length firsts) (bucket_of (length firsts) t.node) (k + 2) t.next.0 (omega arith)
          (linked.links k t below (sym (slice_get-append_left slots (s ∷ []) k (omega arith)) ∙ at)));
    }

-- ---- the number of buckets

grow-same : (times nodes buckets : ℕ) → nodes < grow times nodes buckets → grow times (nodes + 1) buckets ≡ grow times nodes buckets
grow-same zero nodes buckets room = refl
grow-same (suc times) nodes buckets room =
    elim (cases_lt buckets nodes) [
      | inl fewer ↦
          let yes : nat_lt buckets nodes ≡ true = grind (arith, nat_tests) in
          let still : nat_lt buckets (nodes + 1) ≡ true = grind (arith, nat_tests) in
          let room_inside : nodes < grow times nodes (2 * buckets) = subst (λ t. nodes < (if t then grow times nodes (2 * buckets) else buckets)) yes room in
          ap (λ t. if t then grow times (nodes + 1) (2 * buckets) else buckets) still ∙ grow-same times nodes (2 * buckets) room_inside
          ∙ ap (λ t. if t then grow times nodes (2 * buckets) else buckets) (sym yes)
      | inr enough ↦
          let no : nat_lt buckets nodes ≡ false = grind (arith, nat_tests) in
          let room_here : nodes < buckets = subst (λ t. nodes < (if t then grow times nodes (2 * buckets) else buckets)) no room in
          let still : nat_lt buckets (nodes + 1) ≡ false = grind (arith, nat_tests) in
          ap (λ t. if t then grow times (nodes + 1) (2 * buckets) else buckets) still ∙ ap (λ t. if t then grow times nodes (2 * buckets) else buckets) (sym no)
    ]

grow-start : (times nodes buckets : ℕ) → nodes ≤ buckets → grow times nodes buckets ≡ buckets
grow-start zero nodes buckets enough = refl
grow-start (suc times) nodes buckets enough =
    let no : nat_lt buckets nodes ≡ false = grind (arith, nat_tests) in
    ap (λ t. if t then grow times nodes (2 * buckets) else buckets) no

pow_more : (times : ℕ) → 2 ^ suc times ≡ 2 * 2 ^ times
pow_more times = Rattle.std.proofs.Math.Nat.pow-suc 2 times ∙ omega arith

grow-more : (times nodes buckets : ℕ) → 0 < buckets → nodes ≡ grow times nodes buckets → nodes < buckets * 2 ^ times → grow times (nodes + 1) buckets ≡ 2 * nodes
grow-more zero nodes buckets some full room = absurd (omega arith)
grow-more (suc times) nodes buckets some full room =
    elim (cases_lt buckets nodes) [
      | inl fewer ↦
          let yes : nat_lt buckets nodes ≡ true = grind (arith, nat_tests) in
          let still : nat_lt buckets (nodes + 1) ≡ true = grind (arith, nat_tests) in
          let full_inside : nodes ≡ grow times nodes (2 * buckets) = full ∙ ap (λ t. if t then grow times nodes (2 * buckets) else buckets) yes in
          let room_inside : nodes < 2 * buckets * 2 ^ times = subst (λ n. nodes < n) (ap (λ n. buckets * n) (pow_more times) ∙ regroup buckets (2 ^ times)) room in
          ap (λ t. if t then grow times (nodes + 1) (2 * buckets) else buckets) still ∙ grow-more times nodes (2 * buckets) (omega arith) full_inside room_inside
      | inr enough ↦
          let no : nat_lt buckets nodes ≡ false = grind (arith, nat_tests) in
          let here : nodes ≡ buckets = full ∙ ap (λ t. if t then grow times nodes (2 * buckets) else buckets) no in
          let now : nat_lt buckets (nodes + 1) ≡ true = grind (arith, nat_tests) in
          ap (λ t. if t then grow times (nodes + 1) (2 * buckets) else buckets) now ∙ grow-start times (nodes + 1) (2 * buckets) (omega arith) ∙ ap (λ n. 2 * n) (sym here)
    ]
  where
    regroup : (a b : ℕ) → a * (2 * b) ≡ 2 * a * b
    regroup a b = grind arith

grow-enough : (times nodes buckets : ℕ) → nodes ≤ buckets * 2 ^ times → nodes ≤ grow times nodes buckets
grow-enough zero nodes buckets room = omega arith
grow-enough (suc times) nodes buckets room =
    elim (cases_lt buckets nodes) [
      | inl fewer ↦
          let yes : nat_lt buckets nodes ≡ true = grind (arith, nat_tests) in
          let room_inside : nodes ≤ 2 * buckets * 2 ^ times = subst (λ n. nodes ≤ n) (ap (λ n. buckets * n) (pow_more times) ∙ regroup buckets (2 ^ times)) room in
          subst (λ t. nodes ≤ (if t then grow times nodes (2 * buckets) else buckets)) (sym yes) (grow-enough times nodes (2 * buckets) room_inside)
      | inr enough ↦
          let no : nat_lt buckets nodes ≡ false = grind (arith, nat_tests) in
          subst (λ t. nodes ≤ (if t then grow times nodes (2 * buckets) else buckets)) (sym no) enough
    ]
  where
    regroup : (a b : ℕ) → a * (2 * b) ≡ 2 * a * b
    regroup a b = grind arith

pub bucket_count-same : (nodes : ℕ) → nodes < bucket_count nodes → bucket_count (nodes + 1) ≡ bucket_count nodes
unfolding bucket_count
bucket_count-same nodes room = grow-same 16 nodes 256 room

pub bucket_count-more : (nodes : ℕ) → nodes ≡ bucket_count nodes → nodes < 16777216 → bucket_count (nodes + 1) ≡ 2 * nodes
unfolding bucket_count
bucket_count-more nodes full room = grow-more 16 nodes 256 (omega arith) full room

pub bucket_count-enough : (nodes : ℕ) → nodes ≤ 16777216 → nodes ≤ bucket_count nodes
unfolding bucket_count
bucket_count-enough nodes room = grow-enough 16 nodes 256 room

grow-most : (times nodes buckets : ℕ) → 0 < nodes → buckets ≤ 2 * nodes ⊎ (buckets ≡ 256) → (grow times nodes buckets ≤ 2 * nodes) ⊎ (grow times nodes buckets ≡ 256)
grow-most zero nodes buckets some few = few
grow-most (suc times) nodes buckets some few =
    elim (cases_lt buckets nodes) [
      | inl fewer ↦
          let yes : nat_lt buckets nodes ≡ true = grind (arith, nat_tests) in
          subst (λ t. ((if t then grow times nodes (2 * buckets) else buckets) ≤ 2 * nodes) ⊎ ((if t then grow times nodes (2 * buckets) else buckets) ≡ 256)) (sym yes) (grow-most times nodes (2 * buckets) some (inl (omega arith)))
      | inr enough ↦
          let no : nat_lt buckets nodes ≡ false = grind (arith, nat_tests) in
          subst (λ t. ((if t then grow times nodes (2 * buckets) else buckets) ≤ 2 * nodes) ⊎ ((if t then grow times nodes (2 * buckets) else buckets) ≡ 256)) (sym no) few
    ]

pub bucket_count-most : (nodes : ℕ) → nodes ≤ 16777216 → bucket_count nodes ≤ 33554432
unfolding bucket_count
bucket_count-most zero few = omega (arith, grow-start 16 zero 256 (omega arith))
bucket_count-most (suc nodes) few = bounded (grow-most 16 (suc nodes) 256 (omega arith) (inr refl))
  where
    bounded : (grow 16 (suc nodes) 256 ≤ 2 * suc nodes) ⊎ (grow 16 (suc nodes) 256 ≡ 256) → grow 16 (suc nodes) 256 ≤ 33554432
    bounded (inl p) = omega arith
    bounded (inr p) = omega arith

pub bucket_count-first : (nodes : ℕ) → nodes ≤ 256 → bucket_count nodes ≡ 256
unfolding bucket_count
bucket_count-first nodes few = grow-start 16 nodes 256 few

-- ---- walks along a chain

-- the triple n has no id past f, where the walk stands in the chain of n's bucket
pub record IsSought (nodes : Nodes) (buckets : ℕ) (n : Node) (f : ℕ) : Type 0 where
  pub here : (f ≡ 0) ⊎ FallsInto nodes buckets (bucket_of buckets n) f
  pub rest : (g : ℕ) → node_at nodes g ≡ Some n → g ≤ f

-- the ids past f of a bucket are listed, where the walk stands at f
pub record IsChainFrom (nodes : Nodes) (buckets bucket f : ℕ) (ids : List NodeId) : Type 0 where
  pub here : (f ≡ 0) ⊎ FallsInto nodes buckets bucket f
  pub listed : (i : ℕ) (g : NodeId) → slice_get ids i ≡ Some g → FallsInto nodes buckets bucket g.0 × (f < g.0)
  pub all_listed : (g : NodeId) → FallsInto nodes buckets bucket g.0 → f < g.0 → (i : ℕ) × (slice_get ids i ≡ Some g)
  pub falling : (i j : ℕ) (g h : NodeId) → i < j → slice_get ids i ≡ Some g → slice_get ids j ≡ Some h → h.0 < g.0

module _ (slots : List Slot) (firsts : List NodeId) (linked : IsLinkedTo (length slots + 2) slots firsts) where
  abbrev all : Nodes
  all = by_id (slot_nodes slots)

  abbrev buckets : ℕ
  buckets = length firsts

  held_below : (g : ℕ) (n : Node) → node_at all g ≡ Some n → g < length slots + 2
  held_below g n is = let at = slot_found slots g n is in omega (arith, at.2, slice_get_within slots at.0 at.1 at.3)

  of_found : (bucket end f : ℕ) → IsLast all buckets bucket end f → (f ≡ 0) ⊎ FallsInto all buckets bucket f
  of_found bucket end f is = elim is.found [ inl none ↦ inl none | inr some ↦ inr some.0 ]

  pub sought_first : (n : Node) (h : NodeId) → slice_get firsts (bucket_of buckets n) ≡ Some h → IsSought all buckets n h.0
  sought_first n h at =
      let is = linked.heads (bucket_of buckets n) h at in
      record {
        here = of_found (bucket_of buckets n) (length slots + 2) h.0 is;
        rest = λ g held. is.last g (n, held, refl) (held_below g n held);
      }

  -- the link goes on in the chain of each bucket that the slot falls into
  here_bucket : (bucket k : ℕ) (s : Slot) → slice_get slots k ≡ Some s → ((k + 2 ≡ 0) ⊎ FallsInto all buckets bucket (k + 2)) → bucket_of buckets s.node ≡ bucket
  here_bucket bucket k s is (inl none) = absurd (omega arith)
  here_bucket bucket k s is (inr falls) = same_bucket slots buckets bucket k s is falls

  pub link_falls : (k : ℕ) (s : Slot) → slice_get slots k ≡ Some s → s.next.0 < k + 2
  link_falls k s is = of_cases (linked.links k s (omega (arith, slice_get_within slots k s is)) is).found
    where
      of_cases : ((s.next.0 ≡ 0) ⊎ (FallsInto all buckets (bucket_of buckets s.node) s.next.0 × (s.next.0 < k + 2))) → s.next.0 < k + 2
      of_cases (inl none) = omega arith
      of_cases (inr some) = some.1

  sought_past : (n : Node) (k : ℕ) (s : Slot) → slice_get slots k ≡ Some s → s.node ≢ n → IsSought all buckets n (k + 2) → IsSought all buckets n s.next.0
  sought_past n k s is other sought =
      let same = here_bucket (bucket_of buckets n) k s is sought.here in
      let link = subst (λ b. IsLast all buckets b (k + 2) s.next.0) same (linked.links k s (omega (arith, slice_get_within slots k s is)) is) in
      record {
        here = of_found (bucket_of buckets n) (k + 2) s.next.0 link;
        rest = λ g held. elim (cases_eq g (k + 2)) [
          | inl at ↦ absurd (other (same_Some s.node n (sym (slot_node slots k s is) ∙ ap (node_at all) (sym at) ∙ held)))
          | inr before ↦ link.last g (n, held, refl) (omega (arith, sought.rest g held))
        ];
      }

  pub sought_next : (n : Node) (f : ℕ) (s : Slot) → 2 ≤ f → slice_get slots (f - 2) ≡ Some s → s.node ≢ n → IsSought all buckets n f → IsSought all buckets n s.next.0
  sought_next n f s past is other sought = let e : f ≡ f - 2 + 2 = omega arith in sought_past n (f - 2) s is other (subst (λ g. IsSought all buckets n g) e sought)

  pub sought_none : (n : Node) (f : ℕ) → node_at all f ≡ None → IsSought all buckets n f → (g : ℕ) → node_at all g ≢ Some n
  sought_none n f none sought g held =
      elim sought.here [
        | inl zero_is ↦ let at = slot_found slots g n held in omega (arith, at.2, zero_is, sought.rest g held)
        | inr falls ↦ none-some falls.0 (sym none ∙ falls.1)
      ]

  pub chain_first : (bucket : ℕ) (h : NodeId) → slice_get firsts bucket ≡ Some h → IsChainFrom all buckets bucket h.0 []
  chain_first bucket h at =
      let is = linked.heads bucket h at in
      record {
        here = of_found bucket (length slots + 2) h.0 is;
        listed = λ i g none. absurd (none-some g none);
        all_listed = λ g falls past. absurd (omega (arith, is.last g.0 falls (held_below g.0 falls.0 falls.1)));
        falling = λ i j g h less none. absurd (none-some g none);
      }

  chain_past : (bucket k : ℕ) (s : Slot) (f : NodeId) (ids : List NodeId) → slice_get slots k ≡ Some s → f.0 ≡ k + 2 → IsChainFrom all buckets bucket f.0 ids → IsChainFrom all buckets bucket s.next.0 (ids ++ f ∷ [])
  chain_past bucket k s f ids is at chain =
      let same = here_bucket bucket k s is (subst (λ g. (g ≡ 0) ⊎ FallsInto all buckets bucket g) at chain.here) in
      let link = subst (λ b. IsLast all buckets b (k + 2) s.next.0) same (linked.links k s (omega (arith, slice_get_within slots k s is)) is) in
      let next_less = link_falls k s is in
      let f_falls : FallsInto all buckets bucket f.0 = subst (λ g. FallsInto all buckets bucket g) (sym at) (falls_at slots buckets bucket k s is same) in
      record {
        here = of_found bucket (k + 2) s.next.0 link;
        listed = λ i g is_at. elim (slice_get-push_cases ids f i g is_at) [
          | inl before ↦ let old = chain.listed i g before in (old.0, omega (arith, old.1))
          | inr last ↦ (subst (λ (h : NodeId). FallsInto all buckets bucket h.0) last.1 f_falls, subst (λ (h : NodeId). s.next.0 < h.0) last.1 (omega arith))
        ];
        all_listed = λ g falls past. elim (cases_lt f.0 g.0) [
          | inl beyond ↦ let old = chain.all_listed g falls beyond in (old.0, slice_get-append ids (f ∷ []) old.0 g old.1)
          | inr within ↦ elim (cases_eq g.0 f.0) [
            | inl here ↦ (length ids, slice_get-seam ids f ∙ ap (λ n. Some (id_of n)) (sym here))
            | inr before ↦ absurd (omega (arith, link.last g.0 falls (omega arith)))
          ]
        ];
        falling = λ i j g h less g_at h_at. elim (slice_get-push_cases ids f j h h_at) [
          | inl before ↦ chain.falling i j g h less (earlier i g g_at (omega (arith, slice_get_within ids j h before))) before
          | inr last ↦ subst (λ (e : NodeId). e.0 < g.0) last.1 (chain.listed i g (earlier i g g_at (omega (arith, last.0)))).1
        ];
      }
    where
      id_of : ℕ → NodeId
      id_of n = record { 0 = n }

      earlier : (i : ℕ) (g : NodeId) → slice_get (ids ++ f ∷ []) i ≡ Some g → i < length ids → slice_get ids i ≡ Some g
      earlier i g g_at within = sym (slice_get-append_left ids (f ∷ []) i within) ∙ g_at

  pub chain_next : (bucket : ℕ) (f : NodeId) (s : Slot) (ids : List NodeId) → 2 ≤ f.0 → slice_get slots (f.0 - 2) ≡ Some s → IsChainFrom all buckets bucket f.0 ids → IsChainFrom all buckets bucket s.next.0 (ids ++ f ∷ [])
  chain_next bucket f s ids past is chain = chain_past bucket (f.0 - 2) s f ids is (omega arith) chain

  pub chain_all : (bucket f : ℕ) (ids : List NodeId) → node_at all f ≡ None → IsChainFrom all buckets bucket f ids → IsChain all buckets bucket ids
  chain_all bucket f ids none chain =
      let end : f ≡ 0 = at_end chain.here in
      record {
        members = λ g. ((λ listed. (chain.listed listed.0 g listed.1).0), (λ falls. chain.all_listed g falls (omega (arith, falls_past slots buckets bucket g.0 falls))));
        falling = chain.falling;
      }
    where
      at_end : (f ≡ 0) ⊎ FallsInto all buckets bucket f → f ≡ 0
      at_end (inl zero_is) = zero_is
      at_end (inr falls) = absurd (none-some falls.0 (sym none ∙ falls.1))

-- ---- what the table's calls leave

pub table_some : (slots : List Slot) (firsts : List NodeId) → IsTable slots firsts → 2 ≤ length firsts
table_some slots firsts table = omega (arith, table.buckets, bucket_count-enough (length slots + 2) table.few)

pub buckets_fit : (slots : List Slot) (firsts : List NodeId) → IsTable slots firsts → length firsts ≤ 33554432
buckets_fit slots firsts table = omega (arith, table.buckets, bucket_count-most (length slots + 2) table.few)

pub table_buckets : (slots : List Slot) (firsts : List NodeId) (ns : List Node) → IsTable slots firsts → slot_nodes slots ≡ ns → length firsts ≡ bucket_count (length ns + 2)
table_buckets slots firsts ns table is = table.buckets ∙ ap (λ n. bucket_count (n + 2)) (sym (length-map slots (λ (t : Slot). t.node)) ∙ ap length is)

-- `==` of two triples
pub same_triple : (m n : Node) → (nat_eq m.variable n.variable && (nat_eq m.low.0 n.low.0 && nat_eq m.high.0 n.high.0)) ≡ true → m ≡ n
same_triple m n e =
    let outer = and_parts (nat_eq m.variable n.variable) (nat_eq m.low.0 n.low.0 && nat_eq m.high.0 n.high.0) e in
    let inner = and_parts (nat_eq m.low.0 n.low.0) (nat_eq m.high.0 n.high.0) outer.1 in
    one_triple m n (exact_unsigned_eq m.variable n.variable outer.0) (exact_unsigned_eq m.low.0 n.low.0 inner.0) (exact_unsigned_eq m.high.0 n.high.0 inner.1)

pub other_triple : (m n : Node) → (nat_eq m.variable n.variable && (nat_eq m.low.0 n.low.0 && nat_eq m.high.0 n.high.0)) ≡ false → m ≢ n
other_triple m n e same =
    let p : nat_eq m.variable n.variable ≡ true = eq-eqb m.variable n.variable (ap (λ (x : Node). x.variable) same) in
    let q : nat_eq m.low.0 n.low.0 ≡ true = eq-eqb m.low.0 n.low.0 (ap (λ (x : Node). x.low.0) same) in
    let r : nat_eq m.high.0 n.high.0 ≡ true = eq-eqb m.high.0 n.high.0 (ap (λ (x : Node). x.high.0) same) in
    let all_true : (nat_eq m.variable n.variable && (nat_eq m.low.0 n.low.0 && nat_eq m.high.0 n.high.0)) ≡ true = rw (p, q, r) in
    false≢true (sym e ∙ all_true)

pub table_none : (slots : List Slot) (firsts : List NodeId) → slots ≡ [] → length firsts ≡ 256 → ((b : ℕ) (h : NodeId) → slice_get firsts b ≡ Some h → h ≡ record { 0 = 0 }) → IsTable slots firsts
table_none slots firsts none sized empty =
    subst (λ xs. IsTable xs firsts) (sym none) (record {
      linked = linked_none [] firsts (λ b h at. ap (λ (x : NodeId). x.0) (empty b h at));
      buckets = sized ∙ sym (bucket_count-first 2 (omega arith));
      few = omega arith;
    })

more_slots : (slots new_slots : List Slot) (s : Slot) → slot_nodes new_slots ≡ slot_nodes (slots ++ s ∷ []) → length new_slots ≡ length slots + 1
more_slots slots new_slots s nodes = sym (length-map new_slots (λ (t : Slot). t.node)) ∙ ap length nodes ∙ length-map (slots ++ s ∷ []) (λ (t : Slot). t.node) ∙ length-append slots (s ∷ [])

-- one more node, with as many buckets
pub table_more : (slots : List Slot) (firsts new_firsts : List NodeId) (s : Slot) (new_slots : List Slot) → IsTable slots firsts → length slots + 2 ≢ length firsts → length slots + 2 < 16777216
    → slot_nodes new_slots ≡ slot_nodes (slots ++ s ∷ []) → length new_firsts ≡ length firsts → IsLinkedTo (length slots + 3) new_slots new_firsts → IsTable new_slots new_firsts
table_more slots firsts new_firsts s new_slots table not_full room nodes sized linked =
    let count : length new_slots ≡ length slots + 1 = more_slots slots new_slots s nodes in
    let n : length slots + 2 + 1 ≡ length new_slots + 2 = omega arith in
    record {
      linked = subst (λ end. IsLinkedTo end new_slots new_firsts) (omega arith) linked;
      buckets = sized ∙ table.buckets ∙ sym (bucket_count-same (length slots + 2) (omega (arith, table.buckets, bucket_count-enough (length slots + 2) table.few))) ∙ ap bucket_count n;
      few = omega arith;
    }

-- one more node, with twice as many buckets
pub table_doubled : (slots : List Slot) (firsts new_firsts : List NodeId) (s : Slot) (new_slots : List Slot) → IsTable slots firsts → length slots + 2 ≡ length firsts → length slots + 2 < 16777216
    → slot_nodes new_slots ≡ slot_nodes (slots ++ s ∷ []) → length new_firsts ≡ 2 * length firsts → IsLinkedTo (length slots + 3) new_slots new_firsts → IsTable new_slots new_firsts
table_doubled slots firsts new_firsts s new_slots table full room nodes sized linked =
    let count : length new_slots ≡ length slots + 1 = more_slots slots new_slots s nodes in
    let n : length slots + 2 + 1 ≡ length new_slots + 2 = omega arith in
    record {
      linked = subst (λ end. IsLinkedTo end new_slots new_firsts) (omega arith) linked;
      buckets = sized ∙ ap (λ m. 2 * m) (sym full) ∙ sym (bucket_count-more (length slots + 2) (full ∙ table.buckets) room) ∙ ap bucket_count n;
      few = omega arith;
    }

-- what is written back after a call on a vector's slice
pub written_back : {X : Type 0} (n : ℕ) (xs ys : List X) → n ≡ length xs → take n (xs ++ ys) ≡ xs
written_back n xs ys sized = take-append-le n xs ys (omega arith) ∙ take_all n xs (omega arith)
