-- How the parts of the cyclic bits are found.
use Rattle.std.proofs.Common.{◌≡◌, ℕ, zero, suc, ◌+◌, ◌<◌, ◌≤◌, List, [], ◌∷◌, ◌++◌, Option, Some, true, nat_eq, length, get_or, refl, sym, ap, ◌∙◌, inl, inr, subst, arith}
use Rattle.std.specs.Prelude.{All, Contains, IsSome}
use Rattle.std.specs.List.{range_with_len}
use Rattle.std.proofs.lemmas.Bool.{cases_lt, cases_Bool}
use Rattle.std.proofs.lemmas.Bool.Decides.{nat_tests}
use Rattle.std.proofs.lemmas.List.FromFn.{length-range_with_len, get_or-range_with_len}
use Rattle.std.proofs.lemmas.Option.{slice_get_within, get_or_from_slice_get}
use Rattle.dd_core.specs.declared.nodes.Node.{Node}
use Rattle.dd_core.specs.declared.nodes.NodeId.{NodeId}
use Rattle.dd_core.specs.Diagrams.{Nodes, node_at}
use Rattle.dd_ops.specs.Listed.{ListsUnder}
use Rattle.verdict_search.specs.Parts.{part_of}
use Rattle.verdict_search.specs.inner.Parting.{Tests, relabelled, IsRelabelled, KeepsTogether}
use Rattle.verdict_search.proofs.PartNodes.{start}

-- a place of the list
pub defaults_of : {X : Type 0} → (xs : List X) (i : ℕ) (d e : X) → i < length xs → get_or xs i d ≡ get_or xs i e
defaults_of [] i d e low = absurd (omega arith)
defaults_of (g ∷ xs) zero d e low = refl
defaults_of (g ∷ xs) (suc i) d e low = defaults_of xs i d e (omega arith)

-- ---- one label in place of another

pub record RelabelledSoFar (left kept : ℕ) (old new : List ℕ) (place : ℕ) : Type 0 where
  pub sized : length new ≡ length old
  pub done : (k : ℕ) → k < place → part_of new k ≡ relabelled left kept (part_of old k)
  pub rest : (k : ℕ) → place ≤ k → part_of new k ≡ part_of old k

relabelled-left : (left kept : ℕ) → relabelled left kept left ≡ kept
relabelled-left left kept = let same : nat_eq left left ≡ true = grind (arith, nat_tests) in rw same refl

relabelled-kept : (left kept : ℕ) → relabelled left kept kept ≡ kept
relabelled-kept left kept = elim (cases_Bool (nat_eq kept left)) [ inl same ↦ rw same refl | inr other ↦ rw other refl ]

pub relabelled-together : (left kept : ℕ) (old new : List ℕ) → IsRelabelled left kept old new → KeepsTogether old new
relabelled-together left kept old new is i j low below same = is i low ∙ ap (relabelled left kept) same ∙ sym (is j below)

-- ---- one bit with others

pub record JoinedSoFar (old new : List ℕ) (place : ℕ) (others : List ℕ) (i : ℕ) : Type 0 where
  pub sized : length new ≡ length old
  pub labelled : All (λ (p : ℕ). p < length old) new
  pub together : KeepsTogether old new
  pub joined : (k d : ℕ) → k < i → part_of new (get_or others k d) ≡ part_of new place

relabelled-below : (left kept p n : ℕ) → kept < n → p < n → relabelled left kept p < n
relabelled-below left kept p n low below = elim (cases_Bool (nat_eq p left)) [ inl same ↦ rw same low | inr other ↦ rw other below ]

pub joined_more : {old now new : List ℕ} {place i left kept : ℕ} {others : List ℕ} → place < length old → All (λ (j : ℕ). j < length old) others → i < length others → left ≡ part_of now (get_or others i 0) → kept ≡ part_of now place
    → JoinedSoFar old now place others i → length new ≡ length now → IsRelabelled left kept now new → JoinedSoFar old new place others (i + 1)
joined_more {old} {now} {new} {place} {i} {left} {kept} {others} inside all low left_is kept_is before sized is =
    let here : place < length now = omega (arith, before.sized) in
    let below : (k d : ℕ) → k < length others → get_or others k d < length now = λ k d less. let p = all k d less in omega (arith, p, before.sized) in
    record {
      sized = sized ∙ before.sized;
      labelled = λ k d less.
          let within : k < length now = omega (arith, sized) in
          let label : part_of now k < length old = before.labelled k 0 within in
          let other : kept < length old = let p = before.labelled place 0 here in omega (arith, p, kept_is) in
          subst (λ (p : ℕ). p < length old) (sym (is k within) ∙ defaults_of new k 0 d less) (relabelled-below left kept (part_of now k) (length old) other label);
      together = λ j k less within same.
          let first : j < length now = omega (arith, before.sized) in
          let second : k < length now = omega (arith, before.sized) in
          relabelled-together left kept now new is j k first second (before.together j k less within same);
      joined = λ k d less. elim (cases_lt k i) [
        | inl earlier ↦ relabelled-together left kept now new is (get_or others k d) place (below k d (omega arith)) here (before.joined k d earlier)
        | inr last ↦
            let same : k ≡ i = omega arith in
            let at : get_or others k d ≡ get_or others i 0 = ap (λ (n : ℕ). get_or others n d) same ∙ defaults_of others i d 0 low in
            is (get_or others k d) (below k d (omega arith))
            ∙ ap (relabelled left kept) (ap (part_of now) at ∙ sym left_is)
            ∙ relabelled-left left kept
            ∙ sym (is place here ∙ ap (relabelled left kept) (sym kept_is) ∙ relabelled-kept left kept)
      ];
    }

-- ---- all bits

pub record ClosedSoFar (nodes : Nodes) (a : ℕ) (bits : List NodeId) (i : ℕ) (labels : List ℕ) : Type 0 where
  pub sized : length labels ≡ length bits
  pub labelled : All (λ (p : ℕ). p < length bits) labels
  pub closed : (k j : ℕ) → k < i → j < length labels → Tests nodes (a + j) (get_or bits k start) → part_of labels j ≡ part_of labels k

pub closed_none : (nodes : Nodes) (a : ℕ) (bits : List NodeId) (labels : List ℕ) → labels ≡ range_with_len 0 (length bits) → ClosedSoFar nodes a bits 0 labels
closed_none nodes a bits labels is = record {
  sized = ap length is ∙ length-range_with_len 0 (length bits);
  labelled = subst (All (λ (p : ℕ). p < length bits)) (sym is) (λ k d low.
      let inside : k < length bits = omega (arith, length-range_with_len 0 (length bits)) in
      let at = get_or-range_with_len 0 (length bits) k d inside in
      omega (arith, at));
  closed = λ k j less. absurd (omega arith);
}

pub closed_more : {nodes : Nodes} {a i : ℕ} {bits : List NodeId} {labels new : List ℕ} (read : List ℕ) → i < length bits → ClosedSoFar nodes a bits i labels → ((j : ℕ) → Tests nodes (a + j) (get_or bits i start) → Contains read j)
    → length new ≡ length labels → All (λ (p : ℕ). p < length labels) new → KeepsTogether labels new → All (λ (j : ℕ). part_of new j ≡ part_of new i) read → ClosedSoFar nodes a bits (i + 1) new
closed_more {nodes} {a} {i} {bits} {labels} {new} read low before reads sized labelled together joined = record {
  sized = sized ∙ before.sized;
  labelled = subst (λ (n : ℕ). All (λ (p : ℕ). p < n) new) before.sized labelled;
  closed = λ k j less inside tests. elim (cases_lt k i) [
    | inl earlier ↦ together j k (omega (arith, sized)) (omega (arith, before.sized)) (before.closed k j earlier (omega (arith, sized)) tests)
    | inr last ↦
        let same : k ≡ i = omega arith in
        let has = reads j (subst (λ (n : ℕ). Tests nodes (a + j) (get_or bits n start)) same tests) in
        subst (λ (n : ℕ). part_of new n ≡ part_of new k) has.2 (joined has.0 j has.1 ∙ ap (part_of new) (sym same))
  ];
}

-- ---- the bits that a node reads

-- of the first nodes, as many as i says
pub record ReadSoFar (nodes : Nodes) (a v : ℕ) (ids : List NodeId) (i : ℕ) (read : List ℕ) : Type 0 where
  pub inside : All (λ (j : ℕ). a + j < v) read
  pub found : (k j : ℕ) (d : NodeId) (n : Node) → k < i → node_at nodes (get_or ids k d).0 ≡ Some n → n.variable ≡ a + j → Contains read j

contains_push : (xs : List ℕ) (x j : ℕ) → Contains xs j → Contains (xs ++ x ∷ []) j
contains_push [] x j has = absurd (let low = has.1 in omega arith)
contains_push (y ∷ xs) x j (zero, low, at) = (0, omega arith, at)
contains_push (y ∷ xs) x j (suc k, low, at) = let r = contains_push xs x j (k, omega arith, at) in (suc r.0, omega (arith, r.1), r.2)

contains_last : (xs : List ℕ) (x : ℕ) → Contains (xs ++ x ∷ []) x
contains_last [] x = (0, omega arith, refl)
contains_last (y ∷ xs) x = let r = contains_last xs x in (suc r.0, omega (arith, r.1), r.2)

all_push : (P : ℕ → Type 0) (xs : List ℕ) (x : ℕ) → All P xs → P x → All P (xs ++ x ∷ [])
all_push P [] x all last zero d low = last
all_push P [] x all last (suc k) d low = absurd (omega arith)
all_push P (y ∷ xs) x all last zero d low = all 0 d (omega arith)
all_push P (y ∷ xs) x all last (suc k) d low = all_push P xs x (λ i e less. all (suc i) e (omega arith)) last k d (omega arith)

-- what the next node tests is added
pub read_some : {nodes : Nodes} {a v i bit : ℕ} {ids : List NodeId} {read : List ℕ} (d : NodeId) → i < length ids → ReadSoFar nodes a v ids i read → a + bit < v → ((j : ℕ) (n : Node) → node_at nodes (get_or ids i d).0 ≡ Some n → n.variable ≡ a + j → Some bit ≡ Some j) → ReadSoFar nodes a v ids (i + 1) (read ++ bit ∷ [])
read_some {nodes} {a} {v} {i} {bit} {ids} {read} d low before inside tested = record {
  inside = all_push (λ (j : ℕ). a + j < v) read bit before.inside inside;
  found = λ k j e n less is at. elim (cases_lt k i) [
    | inl earlier ↦ contains_push read bit j (before.found k j e n earlier is at)
    | inr last ↦
        let same : k ≡ i = omega arith in
        let own : node_at nodes (get_or ids i d).0 ≡ Some n = ap (λ (g : NodeId). node_at nodes g.0) (defaults_of ids i d e low ∙ ap (λ (m : ℕ). get_or ids m e) (sym same)) ∙ is in
        let found = tested j n own at in
        let bit_is : bit ≡ j = cc in
        subst (λ (m : ℕ). Contains (read ++ bit ∷ []) m) bit_is (contains_last read bit)
  ];
}

-- the next node tests none
pub read_none : {nodes : Nodes} {a v i : ℕ} {ids : List NodeId} {read : List ℕ} (d : NodeId) → i < length ids → ReadSoFar nodes a v ids i read → ((j : ℕ) (n : Node) → node_at nodes (get_or ids i d).0 ≡ Some n → n.variable ≡ a + j → ⊥) → ReadSoFar nodes a v ids (i + 1) read
read_none {nodes} {a} {v} {i} {ids} {read} d low before tested = record {
  inside = before.inside;
  found = λ k j e n less is at. elim (cases_lt k i) [
    | inl earlier ↦ before.found k j e n earlier is at
    | inr last ↦
        let same : k ≡ i = omega arith in
        let own : node_at nodes (get_or ids i d).0 ≡ Some n = ap (λ (g : NodeId). node_at nodes g.0) (defaults_of ids i d e low ∙ ap (λ (m : ℕ). get_or ids m e) (sym same)) ∙ is in
        absurd (tested j n own at)
  ];
}

-- a node that tests the variable is listed
pub read_all : {nodes : Nodes} {a v i : ℕ} {ids : List NodeId} {read : List ℕ} (f : NodeId) → ListsUnder nodes f ids → length ids ≤ i → ReadSoFar nodes a v ids i read → (j : ℕ) → Tests nodes (a + j) f → Contains read j
read_all {nodes} {a} {v} {i} {ids} {read} f all end done j tests =
    let some : IsSome (node_at nodes tests.node.0) = subst (λ (o : Option Node). IsSome o) (sym tests.is) refl in
    let listed = (all.under tests.node).1 (tests.under, some) in
    let low = slice_get_within ids listed.0 tests.node listed.1 in
    done.found listed.0 j tests.node tests.triple (omega arith) (ap (λ (g : NodeId). node_at nodes g.0) (get_or_from_slice_get ids listed.0 tests.node tests.node listed.1) ∙ tests.is) tests.tested
