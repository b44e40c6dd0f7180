-- The components that a search of the reversed graph finds behind a depth-first search.
use Rattle.std.proofs.Common.{◌≡◌, ◌⊎◌, inl, inr, ℕ, zero, suc, ◌+◌, ◌<◌, ◌≤◌, ◌≢◌, List, [], ◌∷◌, ◌++◌, Some, Bool, true, false, length, get_or, set, slice_get, replicate, refl, sym, ◌∙◌, subst, arith, length-set}
use Rattle.std.specs.Prelude.{nat_le}
use Rattle.std.proofs.lemmas.List.{get_or-set_same, get_or-set_other, length-replicate}
use Rattle.std.proofs.lemmas.Bool.Decides.{nat_tests}
use Rattle.argos_base.specs.SignalSets.{has}
use Rattle.argos_base.proofs.Bools.{true_or_false}
use Rattle.eqn_order.specs.inner.Graphs.{row, Stands, IsEdge, Reach, here, along, AreRows, AreReversed, IsFolded, IsFinishingOrder, AreComponents}
use Rattle.eqn_order.specs.inner.Searches.{Walk, ends, step, WalksFrom, Gathers}
use Rattle.eqn_order.proofs.Places.{within, Stands-keep, Stands-last, Stands-cases, Stands-none, Stands-first, Stands-behind, Stands-either, joined, same_or_not, has-set_same, has-set_keep, has-set_cases, row_inside, get_at, at_most_or_above}
use Rattle.eqn_order.proofs.Searching.{none_seen}

-- what ways of the reversed graph say of the graph
module _ (R Q : List (List ℕ)) (F : List ℕ) (v : AreReversed R Q) where
  -- a walk from a place at most p0 up to k crosses p0: what stands there can be reached from the end
  pub cross : IsFolded R F → (k p0 p x0 r : ℕ) → p ≤ p0 → p0 ≤ k → slice_get F p0 ≡ Some x0 → slice_get F k ≡ Some r → Walk Q F k p → Reach R r x0
  cross f k p0 p x0 r l m e g (ends) = let e' : slice_get F k ≡ Some x0 = subst (λ j. slice_get F j ≡ Some x0) (omega arith) e in let same : r ≡ x0 = cc in subst (λ z. Reach R r z) same (here r)
  cross f k p0 p x0 r l m e g (step a q x y la lq ex ey edge rest) = elim (at_most_or_above q p0) [
    | inl low ↦ cross f k p0 q x0 r low m e g rest
    | inr high ↦ joined R r y x0 (cross f k q q y r (omega arith) lq ey g rest) (f a p0 q x x0 y l (omega arith) ex e ey (v.only x y edge))
  ]

  -- a walk reaches its end
  pub walk_reaches : (k p x r : ℕ) → slice_get F p ≡ Some x → slice_get F k ≡ Some r → Walk Q F k p → Reach R x r
  walk_reaches k p x r e g (ends) = let same : x ≡ r = cc in subst (λ z. Reach R x z) same (here x)
  walk_reaches k p x r e g (step a q u w la lq eu ew edge rest) = let same : u ≡ x = cc in subst (λ z. Reach R z r) same (along u w r (v.only u w edge) (walk_reaches k q w r ew g rest))

module _ (Q : List (List ℕ)) (F : List ℕ) where
  -- nothing is seen
  pub gathers_begin : (n : ℕ) → n ≡ length Q → length F ≡ n → Gathers Q F n n (replicate n false) (replicate n 0) []
  gathers_begin n e l = record {
    seen_sized = length-replicate n false ∙ e;
    roots_sized = length-replicate n 0 ∙ e;
    later = λ m x h g. absurd (omega (arith, within F m x g));
    walks = λ x h. absurd (none_seen n x h);
    bounded = λ x h. absurd (none_seen n x h);
    waits = λ x h. Stands-none x h;
    behind = λ y h. absurd (none_seen n y h);
    falls = λ x y g h. absurd (none_seen n x h);
  }

  pub gathers_with : (m n : ℕ) (seen : List Bool) (roots : List ℕ) → n ≡ m → m ≡ length Q → length F ≡ m → seen ≡ replicate m false → roots ≡ replicate m 0 → Gathers Q F n n seen roots []
  gathers_with m n seen roots d e l s r = subst (λ j. Gathers Q F j j seen roots []) (sym d) (subst (λ xs. Gathers Q F m m xs roots []) (sym s) (subst (λ xs. Gathers Q F m m (replicate m false) xs []) (sym r) (gathers_begin m e l)))

  -- the search at the place before begins
  pub goes_down : (lo k : ℕ) (seen : List Bool) (roots : List ℕ) → k ≤ lo → Gathers Q F lo lo seen roots [] → Gathers Q F lo k seen roots []
  goes_down lo k seen roots low h = record {
    seen_sized = h.seen_sized;
    roots_sized = h.roots_sized;
    later = h.later;
    walks = h.walks;
    bounded = λ x s. omega (arith, h.bounded x s);
    waits = λ x s. Stands-none x s;
    behind = h.behind;
    falls = h.falls;
  }

  -- and it ends where the line at this place was seen
  pub goes_on : (lo k r : ℕ) (seen : List Bool) (roots : List ℕ) → lo ≤ k + 1 → slice_get F k ≡ Some r → has seen r ≡ true → Gathers Q F lo k seen roots [] → Gathers Q F k k seen roots []
  goes_on lo k r seen roots low e s h = record {
    seen_sized = h.seen_sized;
    roots_sized = h.roots_sized;
    later = λ m x l g. elim (same_or_not m k) [ inl d ↦ at_k m x d g | inr d ↦ h.later m x (omega arith) g ];
    walks = h.walks;
    bounded = h.bounded;
    waits = h.waits;
    behind = h.behind;
    falls = h.falls;
  }
    where
      at_k : (m x : ℕ) → m ≡ k → slice_get F m ≡ Some x → has seen x ≡ true
      at_k m x d g =
          let g' : slice_get F k ≡ Some x = subst (λ j. slice_get F j ≡ Some x) d g in
          let same : r ≡ x = cc in
          subst (λ z. has seen z ≡ true) same s

  -- one more line is seen, and waits
  pub adds : (lo k t : ℕ) (seen : List Bool) (roots waiting : List ℕ) → Gathers Q F lo k seen roots waiting → t < length Q → has seen t ≡ false → WalksFrom Q F k t → Gathers Q F lo k (set seen t true) (set roots t k) (waiting ++ t ∷ [])
  adds lo k t seen roots waiting h l new w = record {
    seen_sized = length-set seen t true ∙ h.seen_sized;
    roots_sized = length-set roots t k ∙ h.roots_sized;
    later = λ m x a g. has-set_keep seen t x (h.later m x a g);
    walks = λ x s. elim (same_or_not x t) [
      | inl e ↦ subst (λ z. WalksFrom Q F (get_or (set roots t k) z 0) z) (sym e) (subst (λ z. WalksFrom Q F z t) (sym root_t) w)
      | inr n ↦ subst (λ z. WalksFrom Q F z x) (sym (root_other x n)) (h.walks x (seen_other x n s))
    ];
    bounded = λ x s. elim (same_or_not x t) [ inl e ↦ subst (λ z. k ≤ get_or (set roots t k) z 0) (sym e) (omega (arith, root_t)) | inr n ↦ omega (arith, root_other x n, h.bounded x (seen_other x n s)) ];
    waits = λ x s. elim (Stands-cases waiting t x s) [ inl e ↦ old_waits x (h.waits x e) | inr e ↦ subst (λ z. (has (set seen t true) z ≡ true) × (get_or (set roots t k) z 0 ≡ k)) e (has_t, root_t) ];
    behind = λ y s. elim (has-set_cases seen t y s) [
      | inl e ↦ (elim (h.behind y e) [ inl p ↦ inl (Stands-keep waiting (t ∷ []) y p) | inr f ↦ inr (λ x g. has-set_keep seen t x (f x g)) ])
      | inr e ↦ inl (subst (λ z. Stands (waiting ++ t ∷ []) z) e (Stands-last waiting t))
    ];
    falls = λ x y g sx sy. elim (same_or_not y t) [
      | inl e ↦ subst (λ z. get_or (set roots t k) z 0 ≤ get_or (set roots t k) x 0) (sym e) (omega (arith, root_t, lowest x sx))
      | inr n ↦ elim (same_or_not x t) [
        | inl e ↦ subst (λ z. get_or (set roots t k) y 0 ≤ get_or (set roots t k) z 0) (sym e) (omega (arith, root_t, root_other y n, closed y (seen_other y n sy) (subst (λ z. IsEdge Q y z) e g)))
        | inr n' ↦ omega (arith, root_other x n', root_other y n, h.falls x y g (seen_other x n' sx) (seen_other y n sy))
      ]
    ];
  }
    where
      has_t : has (set seen t true) t ≡ true
      has_t = has-set_same seen t (omega (arith, h.seen_sized))

      root_t : get_or (set roots t k) t 0 ≡ k
      root_t = get_or-set_same roots t k 0 (omega (arith, h.roots_sized))

      root_other : (x : ℕ) → x ≢ t → get_or (set roots t k) x 0 ≡ get_or roots x 0
      root_other x n = get_or-set_other roots t x k 0 n

      seen_other : (x : ℕ) → x ≢ t → has (set seen t true) x ≡ true → has seen x ≡ true
      seen_other x n s = elim (has-set_cases seen t x s) [ inl e ↦ e | inr e ↦ absurd (n (sym e)) ]

      lowest : (x : ℕ) → has (set seen t true) x ≡ true → k ≤ get_or (set roots t k) x 0
      lowest x s = elim (same_or_not x t) [ inl e ↦ subst (λ z. k ≤ get_or (set roots t k) z 0) (sym e) (omega (arith, root_t)) | inr n ↦ omega (arith, root_other x n, h.bounded x (seen_other x n s)) ]

      old_waits : (x : ℕ) → (has seen x ≡ true) × (get_or roots x 0 ≡ k) → (has (set seen t true) x ≡ true) × (get_or (set roots t k) x 0 ≡ k)
      old_waits x a = elim (same_or_not x t) [ inl e ↦ subst (λ z. (has (set seen t true) z ≡ true) × (get_or (set roots t k) z 0 ≡ k)) (sym e) (has_t, root_t) | inr n ↦ (has-set_keep seen t x a.0, root_other x n ∙ a.1) ]

      -- what t leads to was numbered in this search
      closed : (y : ℕ) → has seen y ≡ true → IsEdge Q y t → get_or roots y 0 ≤ k
      closed y s g = elim (h.behind y s) [ inl p ↦ omega (arith, (h.waits y p).1) | inr f ↦ clash (f t g) ]
        where
          clash : has seen t ≡ true → get_or roots y 0 ≤ k
          clash e = cc

  -- a line that waited is behind where all that leads to it was seen
  pub settles : (lo k v : ℕ) (seen : List Bool) (roots waiting : List ℕ) → Gathers Q F lo k seen roots (v ∷ waiting) → ((x : ℕ) → IsEdge Q v x → has seen x ≡ true) → Gathers Q F lo k seen roots waiting
  settles lo k v seen roots waiting h all = record {
    seen_sized = h.seen_sized;
    roots_sized = h.roots_sized;
    later = h.later;
    walks = h.walks;
    bounded = h.bounded;
    waits = λ x s. h.waits x (Stands-behind waiting v x s);
    behind = λ y s. elim (h.behind y s) [
      | inl p ↦ (elim (Stands-either waiting v y p) [ inl e ↦ inr (subst (λ z. (x : ℕ) → IsEdge Q z x → has seen x ≡ true) e all) | inr q ↦ inl q ])
      | inr f ↦ inr f
    ];
    falls = h.falls;
  }

  -- the last of those that wait is the next
  pub turns : (lo k v : ℕ) (seen : List Bool) (roots waiting : List ℕ) → Gathers Q F lo k seen roots (waiting ++ v ∷ []) → Gathers Q F lo k seen roots (v ∷ waiting)
  turns lo k v seen roots waiting h = record {
    seen_sized = h.seen_sized;
    roots_sized = h.roots_sized;
    later = h.later;
    walks = h.walks;
    bounded = h.bounded;
    waits = λ x s. elim (Stands-either waiting v x s) [
      | inl e ↦ h.waits x (subst (λ z. Stands (waiting ++ v ∷ []) z) e (Stands-last waiting v))
      | inr q ↦ h.waits x (Stands-keep waiting (v ∷ []) x q)
    ];
    behind = λ y s. elim (h.behind y s) [
      | inl p ↦ (elim (Stands-cases waiting v y p) [ inl q ↦ inl (Stands-behind waiting v y q) | inr e ↦ inl (subst (λ z. Stands (v ∷ waiting) z) e (Stands-first waiting v)) ])
      | inr f ↦ inr f
    ];
    falls = h.falls;
  }

  -- what leads to a line of this search, and wasn't seen, can be added to it
  pub can_add : (lo k t v : ℕ) (seen : List Bool) (roots waiting : List ℕ) → lo ≤ k + 1 → ((u : ℕ) → u < length Q → Stands F u) → Gathers Q F lo k seen roots (v ∷ waiting) → t < length Q → IsEdge Q v t → has seen t ≡ false → WalksFrom Q F k t
  can_add lo k t v seen roots waiting under o h l g new =
      let s = o t l in
      let a = h.waits v (Stands-first waiting v) in
      let w : WalksFrom Q F k v = subst (λ z. WalksFrom Q F z v) a.1 (h.walks v a.0) in
      let low : s.place ≤ k = elim (at_most_or_above s.place k) [ inl e ↦ e | inr e ↦ clash s.place (omega arith) s.is ] in
      record { place = s.place; is = s.is; below = low; walk = step s.place w.place t v low w.below s.is w.is g w.walk }
    where
      clash : (m : ℕ) → lo ≤ m → slice_get F m ≡ Some t → m ≤ k
      clash m e f = let s : has seen t ≡ true = h.later m t e f in cc

-- when all places were passed the numbers are those of components
pub are_components : (R Q : List (List ℕ)) (F : List ℕ) (seen : List Bool) (roots : List ℕ) → AreReversed R Q → IsFinishingOrder R F → AreRows R → Gathers Q F 0 0 seen roots [] → AreComponents R roots
are_components R Q F seen roots rev o rows h = λ v w g. (to v w g, from v w g)
  where
    seen_all : (x : ℕ) → x < length R → has seen x ≡ true
    seen_all x l = let s = o.each x l in h.later s.place x (omega arith) s.is

    inside : (v w : ℕ) → IsEdge R v w → v < length R
    inside v w g = row_inside R v w g

    to : (v w : ℕ) → IsEdge R v w → get_or roots w 0 ≡ get_or roots v 0 → Reach R w v
    to v w g e =
        let a = h.walks v (seen_all v (inside v w g)) in
        let b : WalksFrom Q F (get_or roots v 0) w = subst (λ z. WalksFrom Q F z w) e (h.walks w (seen_all w (rows v w g))) in
        by_root v w (get_or roots v 0) a b
      where
        by_root : (v w k : ℕ) → WalksFrom Q F k v → WalksFrom Q F k w → Reach R w v
        by_root v w k a b = at (last k a.place a.walk (within F a.place v a.is))
          where
            last : (k p : ℕ) → Walk Q F k p → p < length F → k < length F
            last k p (ends) l = l
            last k p (step a q x y la lq ex ey edge rest) l = last k q rest (within F q y ey)

            at : k < length F → Reach R w v
            at l =
                let r : ℕ = get_or F k 0 in
                let e : slice_get F k ≡ Some r = get_at F k l in
                joined R w r v (walk_reaches R Q F rev k b.place w r b.is e b.walk) (cross R Q F rev o.folded k a.place a.place v r (omega arith) a.below a.is e a.walk)

    rises : (v w : ℕ) → Reach R v w → has seen v ≡ true → get_or roots w 0 ≤ get_or roots v 0
    rises v w (here x) s = omega arith
    rises v w (along x y z g rest) s = let sy = seen_all y (rows x y g) in omega (arith, rises y w rest sy, h.falls x y (rev.back x y g) s sy)

    from : (v w : ℕ) → IsEdge R v w → Reach R w v → get_or roots w 0 ≡ get_or roots v 0
    from v w g r =
        let sv = seen_all v (inside v w g) in
        let sw = seen_all w (rows v w g) in
        omega (arith, h.falls v w (rev.back v w g) sv sw, rises w v r sw)

-- the reversed graph leads to lines of the graph
pub reversed_rows : (R Q : List (List ℕ)) → AreReversed R Q → AreRows Q
reversed_rows R Q rev w v g = omega (arith, rev.sized, row_inside R v w (rev.only v w g))
