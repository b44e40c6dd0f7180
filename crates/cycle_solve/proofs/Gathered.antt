-- The nodes under several nodes, gathered one root after the other.
use Rattle.std.proofs.Common.{◌≡◌, ℕ, zero, suc, ◌+◌, ◌<◌, ◌≤◌, List, [], ◌∷◌, ◌++◌, Some, None, Bool, if◌then◌else◌, length, refl, sym, ap, ◌∙◌, subst, inl, inr, ◌⊎◌, arith, append_assoc, IsSome, drop, get_or, Result, Ok, Err, OnOk}
use Rattle.std.specs.List.{slice_get}
use Rattle.std.proofs.lemmas.Bool.{cases_lt}
use Rattle.std.proofs.lemmas.Option.{slice_get_within}
use Rattle.std.proofs.lemmas.List.{drop_more}
use Rattle.std.proofs.Math.ListN.{drop_of_length-le}
use Rattle.dd_core.specs.declared.nodes.Node.{Node}
use Rattle.dd_core.specs.declared.nodes.NodeId.{NodeId}
use Rattle.dd_core.specs.Diagrams.{Nodes, node_at}
use Rattle.dd_core.proofs.Lists.{slice_get-append, slice_get-seam, slice_get-push_cases}
use Rattle.dd_ops.specs.Listed.{IsUnder, IsListed, IsListing, ListsUnder}
use Rattle.cycle_solve.specs.inner.Listing.{AreUnder, NewOnes, no_more, known, unknown}

none_is_some : {A : Type 0} {g : NodeId} → None ≡ Some g → A
none_is_some e = cc

same_some : (f g : NodeId) → Some f ≡ Some g → f ≡ g
same_some f g e = cc

-- what stands before a place of a list
in_front : (done rest : List NodeId) (j : ℕ) (g : NodeId) → j < length done
    → slice_get (done ++ rest) j ≡ Some g → slice_get done j ≡ Some g
in_front [] rest j g low at = absurd (omega arith)
in_front (d ∷ done) rest zero g low at = at
in_front (d ∷ done) rest (suc j) g low at = in_front done rest j g (omega arith) at

at_seam : (done rest : List NodeId) (f : NodeId) → slice_get (done ++ f ∷ rest) (length done) ≡ Some f
at_seam [] rest f = refl
at_seam (d ∷ done) rest f = at_seam done rest f

all_of : (rest new : List NodeId) (f g : NodeId) → ((h : NodeId) → IsListed rest h → IsListed new h)
    → IsListed new f → IsListed (f ∷ rest) g → IsListed new g
all_of rest new f g others is (zero, at) = subst (λ (h : NodeId). IsListed new h) (same_some f g at) is
all_of rest new f g others is (suc i, at) = others g (i, at)

-- more ids were listed behind those before, each one of these or of those that were to come
pub record Grows (nodes : Nodes) (old ids new : List NodeId) : Type 0 where
  pub listing : IsListing nodes new
  pub kept : (g : NodeId) → IsListed old g → IsListed new g
  pub came : (g : NodeId) → IsListed new g → IsListed old g ⊎ IsListed ids g
  pub all : (g : NodeId) → IsListed ids g → IsListed new g

-- one more, whose children that are nodes are listed
module _ (nodes : Nodes) (old : List NodeId) (f : NodeId) (listing : IsListing nodes old) (fresh : ¬
    (IsListed old f)) (node : IsSome (node_at nodes f.0))
    (children : (n : Node) (b : Bool) → node_at nodes f.0 ≡ Some n
    → IsSome (node_at nodes (if b then n.high else n.low).0)
    → IsListed old (if b then n.high else n.low)) where
  abbrev more : List NodeId
  more = old ++ f ∷ []

  in_more : (i : ℕ) (g : NodeId) → slice_get old i ≡ Some g → slice_get more i ≡ Some g
  in_more i g at = slice_get-append old (f ∷ []) i g at

  more_cases : (i : ℕ) (g : NodeId) → slice_get more i ≡ Some g
      → (slice_get old i ≡ Some g) ⊎ ((i ≡ length old) × (f ≡ g))
  more_cases i g at = slice_get-push_cases old f i g at

  last_child : (i : ℕ) (g : NodeId) (n : Node) (b : Bool) → i ≡ length old → f ≡ g
      → node_at nodes g.0 ≡ Some n → IsSome (node_at nodes (if b then n.high else n.low).0)
      → (j : ℕ) × (j < i) × (slice_get more j ≡ Some (if b then n.high else n.low))
  last_child i g n b last same at child_node =
      let listed = children n b (ap (λ (h : NodeId). node_at nodes h.0) same ∙ at) child_node in
      let low = slice_get_within old listed.0 (if b then n.high else n.low) listed.1 in
      (listed.0, omega (arith, low, last), in_more listed.0 (if b then n.high else n.low) listed.1)

  pub listing_more : IsListing nodes (old ++ f ∷ [])
  listing_more = record {
    node = λ g at. elim (more_cases at.0 g at.1) [
      | inl earlier ↦ listing.node g (at.0, earlier)
      | inr last ↦ subst (λ (h : NodeId). IsSome (node_at nodes h.0)) last.1 node
    ];
    once = λ i j g at_i at_j. elim (more_cases i g at_i) [
      | inl i_earlier ↦ elim (more_cases j g at_j) [
        | inl j_earlier ↦ listing.once i j g i_earlier j_earlier
        | inr j_last ↦ absurd (fresh (subst (λ (h : NodeId). IsListed old h) (sym j_last.1) (i, i_earlier)))
      ]
      | inr i_last ↦ elim (more_cases j g at_j) [
        | inl j_earlier ↦ absurd (fresh (subst (λ (h : NodeId). IsListed old h) (sym i_last.1) (j, j_earlier)))
        | inr j_last ↦ i_last.0 ∙ sym j_last.0
      ]
    ];
    children_first = λ i g n b at_i node_is child_node. elim (more_cases i g at_i) [
      | inl earlier ↦
          let child = listing.children_first i g n b earlier node_is child_node in
          (child.0, child.1, in_more child.0 (if b then n.high else n.low) child.2)
      | inr last ↦ last_child i g n b last.0 last.1 node_is child_node
    ];
  }

-- ids that list children before parents come to a listing
module _ (nodes : Nodes) (ids : List NodeId) (whole : IsListing nodes ids) where
  pub grown : (done rest old new : List NodeId) → ids ≡ done ++ rest → IsListing nodes old → ((g : NodeId)
      → IsListed done g → IsListed old g) → NewOnes old rest new → Grows nodes old rest new
  grown done [] old new same listing before (no_more) = record {
    listing = listing;
    kept = λ g at. at;
    came = λ g at. inl at;
    all = λ g at. none_is_some at.1;
  }
  grown done (f ∷ rest) old new same listing before (known is later) =
      let next = grown (done ++ f ∷ []) rest old new (same
      ∙ sym (append_assoc done (f ∷ []) rest)) listing (λ g at. elim
      (slice_get-push_cases done f at.0 g at.1) [
        | inl earlier ↦ before g (at.0, earlier)
        | inr last ↦ subst (λ (h : NodeId). IsListed old h) last.1 is
      ]) later in
      record {
        listing = next.listing;
        kept = next.kept;
        came = λ g at. elim (next.came g at) [ inl earlier ↦ inl earlier | inr one ↦ inr (suc one.0, one.1) ];
        all = λ g at. all_of rest new f g next.all (next.kept f is) at;
      }
  grown done (f ∷ rest) old new same listing before (unknown fresh later) =
      let here : slice_get ids (length done)
      ≡ Some f = ap (λ (l : List NodeId). slice_get l (length done)) same ∙ at_seam done rest f in
      let children : (n : Node) (b : Bool) → node_at nodes f.0 ≡ Some n
      → IsSome (node_at nodes (if b then n.high else n.low).0)
      → IsListed old (if b then n.high else n.low) = λ n b at child_node.
      (let child = whole.children_first (length done) f n b here at child_node in
      before (if b then n.high else n.low) (
        child.0,
        in_front done (f ∷ rest) child.0
            (if b then n.high else n.low) child.1 (ap (λ (l : List NodeId). slice_get l child.0) (sym same)
            ∙ child.2),
      )) in
      let pushed = listing_more nodes old f listing fresh (whole.node f (length done, here)) children in
      let next = grown (done ++ f ∷ []) rest (old
      ++ f ∷ []) new (same ∙ sym (append_assoc done (f ∷ []) rest)) pushed (λ g at. elim
      (slice_get-push_cases done f at.0 g at.1) [
        | inl earlier ↦ let was = before g (at.0, earlier) in (
          was.0,
          slice_get-append old
              (f ∷ []) was.0 g was.1,
        )
        | inr last ↦ (length old, slice_get-seam old f ∙ ap Some last.1)
      ]) later in
      record {
        listing = next.listing;
        kept = λ g at. next.kept g (at.0, slice_get-append old (f ∷ []) at.0 g at.1);
        came = λ g at. elim (next.came g at) [
          | inl earlier ↦ elim (slice_get-push_cases old f earlier.0 g earlier.1) [
            | inl was ↦ inl (earlier.0, was)
            | inr last ↦ inr (0, ap Some last.1)
          ]
          | inr one ↦ inr (suc one.0, one.1)
        ];
        all = λ g at. all_of rest new f g next.all (next.kept f (length old, slice_get-seam old f)) at;
      }

-- the nodes under the first roots are listed
pub record AreUnderFirst (nodes : Nodes) (i : ℕ) (roots ids : List NodeId) : Type 0 where
  pub listing : IsListing nodes ids
  pub under : (g : NodeId) → IsListed ids g → (f : NodeId) × (IsListed roots f × IsUnder nodes f g)
  pub all : (j : ℕ) (f g : NodeId) → j < i → slice_get roots j ≡ Some f → IsUnder nodes f g
      → IsSome (node_at nodes g.0) → IsListed ids g

pub under_none : (nodes : Nodes) (roots ids : List NodeId) → ids ≡ [] → AreUnderFirst nodes 0 roots ids
under_none nodes roots ids none = record {
  listing = record {
    node = λ g at. nothing at.0 g at.1;
    once = λ i j g at_i at_j. nothing i g at_i;
    children_first = λ i g n b at node_is child_node. nothing i g at;
  };
  under = λ g at. nothing at.0 g at.1;
  all = λ j f g low at is node. absurd (omega arith);
}
  where
    nothing : {A : Type 0} (i : ℕ) (g : NodeId) → slice_get ids i ≡ Some g → A
    nothing i g at = none_is_some (ap (λ (xs : List NodeId). slice_get xs i) (sym none) ∙ at)

root-there : (roots : List NodeId) (i : ℕ) (f d : NodeId) → i < length roots → f ≡ get_or roots i d
    → slice_get roots i ≡ Some f
root-there [] i f d low is = absurd (omega arith)
root-there (r ∷ roots) zero f d low is = ap Some (sym is)
root-there (r ∷ roots) (suc i) f d low is = root-there roots i f d (omega arith) is

pub under_more : (nodes : Nodes) (i : ℕ) (roots old ids new : List NodeId) (f d : NodeId) → i < length roots
    → f ≡ get_or roots i d → AreUnderFirst nodes i roots old → ListsUnder nodes f ids → NewOnes old ids new
    → AreUnderFirst nodes (i + 1) roots new
under_more nodes i roots old ids new f d low is before lists taken = record {
  listing = grows.listing;
  under = λ g at. elim (grows.came g at) [
    | inl earlier ↦ before.under g earlier
    | inr one ↦ (f, ((i, there), ((lists.under g).0 one).0))
  ];
  all = λ j h g less at under node. elim (cases_lt j i) [
    | inl earlier ↦ grows.kept g (before.all j h g earlier at under node)
    | inr last ↦
        let here : j ≡ i = omega (arith, less, last) in
        let one : f ≡ h = same_some f h (sym there ∙ ap (slice_get roots) (sym here) ∙ at) in
        grows.all g ((lists.under g).1 (subst (λ (k : NodeId). IsUnder nodes k g) (sym one) under, node))
  ];
}
  where
    there : slice_get roots i ≡ Some f
    there = root-there roots i f d low is

    grows : Grows nodes old ids new
    grows = grown nodes ids lists.listing [] ids old new refl before.listing (λ g at. none_is_some at.1) taken

pub under_all : (nodes : Nodes) (i : ℕ) (roots ids : List NodeId) → length roots ≤ i
    → AreUnderFirst nodes i roots ids → AreUnder nodes roots ids
under_all nodes i roots ids end first = record {
  listing = first.listing;
  under = first.under;
  all = λ f g at under node. first.all at.0 f g (let low = slice_get_within roots at.0 f at.1 in omega
      (arith, low, end)) at.1 under node;
}

-- one id taken
pub known_more : (ids : List NodeId) (i : ℕ) (old now : List NodeId) (d : NodeId) → i < length ids
    → ((rest new : List NodeId) → NewOnes now rest new → NewOnes old (get_or ids i d ∷ rest) new)
    → (new : List NodeId) → NewOnes now (drop (i + 1) ids) new → NewOnes old (drop i ids) new
known_more ids i old now d low takes new later = subst (λ (l : List NodeId). NewOnes old l new) (sym
    (drop_more ids i d low)) (takes (drop (i + 1) ids) new later)

pub nothing_more : (ids old : List NodeId) (i : ℕ) → length ids ≤ i → NewOnes old (drop i ids) old
nothing_more ids old i end = subst (λ (l : List NodeId). NewOnes old l old) (sym
    (drop_of_length-le ids end)) no_more

-- one id pushed
pub unknown_more : {X Y : Type 0} (r : Result X Y) (f : NodeId) (old now : List NodeId) → ¬ (IsListed old f)
    → OnOk r (now ≡ old ++ f ∷ []) → OnOk r ((rest new : List NodeId) → NewOnes now rest new
    → NewOnes old (f ∷ rest) new)
unknown_more (Ok x) f old now fresh pushed = λ rest new later. unknown fresh (subst (λ
    (l : List NodeId). NewOnes l rest new) pushed later)
unknown_more (Err e) f old now fresh pushed = tt
