-- Listings, and what a visit adds to them.
use Rattle.std.proofs.Common.{◌≡◌, ℕ, ◌-◌, ◌<◌, ◌≤◌, ◌↔◌, List, [], ◌∷◌, ◌++◌, Option, Some, None, Bool, true, false, cond, if◌then◌else◌, length, refl, sym, ap, ◌∙◌, subst, inl, inr, ◌⊎◌, arith, IsSome}
use Rattle.std.specs.List.{slice_get}
use Rattle.std.proofs.lemmas.Bool.{cases_Bool, eq-eqb, false≢true}
use Rattle.std.proofs.lemmas.Map.Views.{exact_unsigned_eq}
use Rattle.std.proofs.lemmas.Option.{slice_get_within}
use Rattle.dd_core.specs.declared.nodes.Node.{Node}
use Rattle.dd_core.specs.declared.nodes.NodeId.{NodeId}
use Rattle.dd_core.specs.Diagrams.{Nodes, node_at, level, IsReduced}
use Rattle.dd_core.specs.Arenas.{ArenaView, IsArena, Holds, level_of}
use Rattle.dd_core.proofs.Walks.{held_level, level_at}
use Rattle.dd_ops.specs.declared.listing.Listing.{Listing}
use Rattle.dd_ops.specs.Listed.{IsUnder, itself, below, IsListed, IsListing, ListsUnder}
use Rattle.dd_ops.specs.inner.Visited.{is_same, Agrees, Visits}
use Rattle.dd_core.proofs.Lists.{slice_get-append, slice_get-seam, slice_get-push_cases}

same_node_id : (f g : NodeId) → is_same f g ≡ true → f ≡ g
same_node_id f g h = ap (λ n. record { 0 = n }) (exact_unsigned_eq f.0 g.0 h)

-- the set after f was put in, and the list after it was pushed
pub agrees_more : (ids more : List NodeId) (has has_new : NodeId → Bool) (f : NodeId) → ((g : NodeId) → (has g ≡ true) ↔ IsListed ids g) → more ≡ ids ++ f ∷ []
    → ((g : NodeId) → has_new g ≡ cond (is_same f g) true (has g)) → (g : NodeId) → (has_new g ≡ true) ↔ IsListed more g
agrees_more ids more has has_new f agrees pushed updates g = (listed, back)
  where
    at_end : f ≡ g → IsListed more g
    at_end same = (length ids, ap (λ xs. slice_get xs (length ids)) pushed ∙ slice_get-seam ids f ∙ ap Some same)

    listed : has_new g ≡ true → IsListed more g
    listed h = elim (cases_Bool (is_same f g)) [
      | inl same ↦ at_end (same_node_id f g same)
      | inr other ↦
          let before = (agrees g).0 (ap (λ b. cond b true (has g)) (sym other) ∙ sym (updates g) ∙ h) in
          (before.0, ap (λ xs. slice_get xs before.0) pushed ∙ slice_get-append ids (f ∷ []) before.0 g before.1)
    ]

    back : IsListed more g → has_new g ≡ true
    back is = elim (slice_get-push_cases ids f is.0 g (ap (λ xs. slice_get xs is.0) (sym pushed) ∙ is.1)) [
      | inl before ↦ updates g ∙ either (is_same f g) ((agrees g).1 (is.0, before))
      | inr last ↦ updates g ∙ ap (λ b. cond b true (has g)) (ap (λ h. is_same f h) (sym last.1) ∙ eq-eqb f.0 f.0 refl)
    ]
      where
        either : (b : Bool) → has g ≡ true → cond b true (has g) ≡ true
        either true h = refl
        either false h = h

pub IsListing-none : (nodes : Nodes) (ids : List NodeId) → ids ≡ [] → IsListing nodes ids
IsListing-none nodes ids none = record {
  node = λ g is. absurd (nothing is.0 g is.1);
  once = λ i j g is_i is_j. absurd (nothing i g is_i);
  children_first = λ i g n b is at child_is. absurd (nothing i g is);
}
  where
    nothing : (i : ℕ) (g : NodeId) → slice_get ids i ≡ Some g → ⊥
    nothing i g is = none_is_some (ap (λ xs. slice_get xs i) (sym none) ∙ is)
      where
        none_is_some : {g : NodeId} → None ≡ Some g → ⊥
        none_is_some e = cc

module _ (v : ℕ) (nodes : Nodes) (r : IsReduced v nodes) where
  child_later : (f : NodeId) (n : Node) (b : Bool) → node_at nodes f.0 ≡ Some n → level v nodes f.0 < level v nodes (if b then n.high else n.low).0
  child_later f n true is = omega (arith, r.high_later f.0 n is, level_at v nodes f.0 n is)
  child_later f n false is = omega (arith, r.low_later f.0 n is, level_at v nodes f.0 n is)

  -- what stands under f tests no variable before f's
  under_later : (f g : NodeId) → IsUnder nodes f g → level v nodes f.0 ≤ level v nodes g.0
  under_later f g itself = omega arith
  under_later f g (below b n is deeper) = omega (arith, child_later f n b is, under_later (if b then n.high else n.low) g deeper)

  -- a listing with f listed lists all under f
  under_listed : (ids : List NodeId) → IsListing nodes ids → (f g : NodeId) → IsUnder nodes f g → (IsSome (node_at nodes f.0) → IsListed ids f) → IsSome (node_at nodes g.0) → IsListed ids g
  under_listed ids listing f g itself listed node = listed node
  under_listed ids listing f g (below b n is deeper) listed node =
      under_listed ids listing (if b then n.high else n.low) g deeper (λ child_node.
      let at = listed (ap is_some_of is) in
      let before = listing.children_first at.0 f n b at.1 is child_node in
      (before.0, before.2)) node
    where
      is_some_of : Option Node → Bool
      is_some_of None = false
      is_some_of (Some n) = true

Visits-same : (nodes : Nodes) (listing : Listing) (f : NodeId) → Agrees listing → IsListing nodes listing.ids.items → (IsSome (node_at nodes f.0) → IsListed listing.ids.items f) → Visits nodes listing listing f
Visits-same nodes listing f agrees is all = record {
  agrees = agrees;
  listing = is;
  kept = λ i g at. at;
  came = λ g at. inl at;
  all = all;
}

none_is_no_node : (o : Option Node) → o ≡ None → IsSome o → ⊥
none_is_no_node None e h = false≢true h
none_is_no_node (Some n) e h = cc

pub visit_none : (nodes : Nodes) (listing : Listing) (f : NodeId) → Agrees listing → IsListing nodes listing.ids.items → node_at nodes f.0 ≡ None → Visits nodes listing listing f
visit_none nodes listing f agrees is none = Visits-same nodes listing f agrees is (λ node. absurd (none_is_no_node (node_at nodes f.0) none node))

pub visit_listed : (nodes : Nodes) (listing : Listing) (f : NodeId) → Agrees listing → IsListing nodes listing.ids.items → IsListed listing.ids.items f → Visits nodes listing listing f
visit_listed nodes listing f agrees is listed = Visits-same nodes listing f agrees is (λ node. listed)

is_some_from : (o : Option Node) (n : Node) → o ≡ Some n → IsSome o
is_some_from (Some m) n e = refl
is_some_from None n e = cc

-- both children of f were visited, and then f was pushed
pub record VisitsLast (v : ℕ) (nodes : Nodes) (f : NodeId) (n : Node) (old first second new : Listing) : Type 0 where
  pub reduced : IsReduced v nodes
  pub is : node_at nodes f.0 ≡ Some n
  pub absent : ¬ (IsListed old.ids.items f)
  pub low : Visits nodes old first n.low
  pub high : Visits nodes first second n.high
  pub pushed : new.ids.items ≡ second.ids.items ++ f ∷ []

module _ {v : ℕ} {nodes : Nodes} {f : NodeId} {n : Node} {old first second new : Listing} (here : VisitsLast v nodes f n old first second new) where
  kept_second : (i : ℕ) (g : NodeId) → slice_get old.ids.items i ≡ Some g → slice_get second.ids.items i ≡ Some g
  kept_second i g at = here.high.kept i g (here.low.kept i g at)

  listed_second : (g : NodeId) → IsListed first.ids.items g → IsListed second.ids.items g
  listed_second g at = (at.0, here.high.kept at.0 g at.1)

  came_second : (g : NodeId) → IsListed second.ids.items g → IsListed old.ids.items g ⊎ ((b : Bool) × IsUnder nodes (if b then n.high else n.low) g)
  came_second g at = elim (here.high.came g at) [
    | inl in_first ↦ elim (here.low.came g in_first) [ inl in_old ↦ inl in_old | inr under ↦ inr (false, under) ]
    | inr under ↦ inr (true, under)
  ]

  -- f isn't among what stands under its children
  still_absent : IsListed second.ids.items f → ⊥
  still_absent at = elim (came_second f at) [
    | inl in_old ↦ here.absent in_old
    | inr under ↦ omega (arith, child_later v nodes here.reduced f n under.0 here.is, under_later v nodes here.reduced (if under.0 then n.high else n.low) f under.1)
  ]

  in_new : (i : ℕ) (g : NodeId) → slice_get second.ids.items i ≡ Some g → slice_get new.ids.items i ≡ Some g
  in_new i g at = ap (λ xs. slice_get xs i) here.pushed ∙ slice_get-append second.ids.items (f ∷ []) i g at

  new_cases : (i : ℕ) (g : NodeId) → slice_get new.ids.items i ≡ Some g → (slice_get second.ids.items i ≡ Some g) ⊎ ((i ≡ length second.ids.items) × (f ≡ g))
  new_cases i g at = slice_get-push_cases second.ids.items f i g (ap (λ xs. slice_get xs i) (sym here.pushed) ∙ at)

  at_end : slice_get new.ids.items (length second.ids.items) ≡ Some f
  at_end = ap (λ xs. slice_get xs (length second.ids.items)) here.pushed ∙ slice_get-seam second.ids.items f

  -- a child that is a node is listed
  child_listed : (b : Bool) → IsSome (node_at nodes (if b then n.high else n.low).0) → IsListed second.ids.items (if b then n.high else n.low)
  child_listed true node = here.high.all node
  child_listed false node = listed_second n.low (here.low.all node)

  same_node : (m : Node) → node_at nodes f.0 ≡ Some m → n ≡ m
  same_node m e = some_same n m (sym here.is ∙ e)
    where
      some_same : (n m : Node) → Some n ≡ Some m → n ≡ m
      some_same n m e = cc

  child_first : (g : NodeId) (m : Node) (b : Bool) → f ≡ g → node_at nodes g.0 ≡ Some m → IsSome (node_at nodes (if b then m.high else m.low).0)
      → (j : ℕ) × (j < length second.ids.items) × (slice_get new.ids.items j ≡ Some (if b then m.high else m.low))
  child_first g m b same at node =
      let one : n ≡ m = same_node m (ap (λ (h : NodeId). node_at nodes h.0) same ∙ at) in
      let listed = child_listed b (subst (λ (x : Node). IsSome (node_at nodes (if b then x.high else x.low).0)) (sym one) node) in
      let moved : slice_get second.ids.items listed.0 ≡ Some (if b then m.high else m.low) = subst (λ (x : Node). slice_get second.ids.items listed.0 ≡ Some (if b then x.high else x.low)) one listed.1 in
      (listed.0, slice_get_within second.ids.items listed.0 (if b then m.high else m.low) moved, in_new listed.0 (if b then m.high else m.low) moved)

  new_listing : IsListing nodes new.ids.items
  new_listing = record {
    node = λ g at. elim (new_cases at.0 g at.1) [
      | inl earlier ↦ here.high.listing.node g (at.0, earlier)
      | inr last ↦ is_some_from (node_at nodes g.0) n (ap (λ (h : NodeId). node_at nodes h.0) (sym last.1) ∙ here.is)
    ];
    once = λ i j g at_i at_j. elim (new_cases i g at_i) [
      | inl i_earlier ↦ elim (new_cases j g at_j) [
        | inl j_earlier ↦ here.high.listing.once i j g i_earlier j_earlier
        | inr j_last ↦ absurd (still_absent (subst (λ h. IsListed second.ids.items h) (sym j_last.1) (i, i_earlier)))
      ]
      | inr i_last ↦ elim (new_cases j g at_j) [
        | inl j_earlier ↦ absurd (still_absent (subst (λ h. IsListed second.ids.items h) (sym i_last.1) (j, j_earlier)))
        | inr j_last ↦ i_last.0 ∙ sym j_last.0
      ]
    ];
    children_first = λ i g m b at_i node_is child_node. elim (new_cases i g at_i) [
      | inl earlier ↦
          let child = here.high.listing.children_first i g m b earlier node_is child_node in
          (child.0, child.1, in_new child.0 (if b then m.high else m.low) child.2)
      | inr last ↦
          let child = child_first g m b last.1 node_is child_node in
          (child.0, omega (arith, child.1, last.0), child.2)
    ];
  }

  pub visit_more : Agrees new → Visits nodes old new f
  visit_more agrees = record {
    agrees = agrees;
    listing = new_listing;
    kept = λ i g at. in_new i g (kept_second i g at);
    came = λ g at. elim (new_cases at.0 g at.1) [
      | inl earlier ↦ elim (came_second g (at.0, earlier)) [
        | inl in_old ↦ inl in_old
        | inr under ↦ inr (below under.0 n here.is under.1)
      ]
      | inr last ↦ inr (subst (λ h. IsUnder nodes f h) last.1 itself)
    ];
    all = λ node. (length second.ids.items, at_end);
  }

pub low_is_held : (arena : ArenaView) (f : NodeId) (n : Node) → IsArena arena → node_at arena.nodes f.0 ≡ Some n → Holds arena n.low.0
low_is_held arena f n valid is = held_level arena.variables arena.nodes n.variable n.low.0 (valid.reduced.low_later f.0 n is)

pub high_is_held : (arena : ArenaView) (f : NodeId) (n : Node) → IsArena arena → node_at arena.nodes f.0 ≡ Some n → Holds arena n.high.0
high_is_held arena f n valid is = held_level arena.variables arena.nodes n.variable n.high.0 (valid.reduced.high_later f.0 n is)

pub child_smaller : (arena : ArenaView) (f : NodeId) (n : Node) (b : Bool) → IsArena arena → node_at arena.nodes f.0 ≡ Some n → arena.variables - level_of arena (if b then n.high else n.low).0 < arena.variables - level_of arena f.0
child_smaller arena f n b valid is = omega (arith, child_later arena.variables arena.nodes valid.reduced f n b is, level_at arena.variables arena.nodes f.0 n is, valid.reduced.variable f.0 n is)

nothing_listed : (ids : List NodeId) (g : NodeId) → ids ≡ [] → IsListed ids g → ⊥
nothing_listed ids g none is = none_is_some g (ap (λ xs. slice_get xs is.0) (sym none) ∙ is.1)
  where
    none_is_some : (g : NodeId) → None ≡ Some g → ⊥
    none_is_some g e = cc

pub lists_under : (arena : ArenaView) (f : NodeId) (old new : Listing) → IsArena arena → old.ids.items ≡ [] → Visits arena.nodes old new f → ListsUnder arena.nodes f new.ids.items
lists_under arena f old new valid empty visits = record {
  listing = visits.listing;
  under = λ g. (λ at. (from_under g (visits.came g at), visits.listing.node g at), λ is. under_listed arena.variables arena.nodes valid.reduced new.ids.items visits.listing f g is.0 visits.all is.1);
}
  where
    from_under : (g : NodeId) → IsListed old.ids.items g ⊎ IsUnder arena.nodes f g → IsUnder arena.nodes f g
    from_under g (inl in_old) = absurd (nothing_listed old.ids.items g empty in_old)
    from_under g (inr under) = under
