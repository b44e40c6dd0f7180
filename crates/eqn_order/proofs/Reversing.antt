-- The reversed graph, edge by edge.
use Rattle.std.proofs.Common.{◌≡◌, inl, inr, ℕ, zero, suc, ◌+◌, ◌<◌, ◌≤◌, List, [], ◌∷◌, ◌++◌, Some, length, set, slice_get, replicate, refl, sym, ◌∙◌, subst, arith, length-set}
use Rattle.std.proofs.lemmas.List.{get_or-set_same, get_or-set_other, length-replicate}
use Rattle.eqn_order.specs.inner.Graphs.{row, Stands, IsEdge, AreReversed}
use Rattle.eqn_order.specs.inner.Searches.{IsReversedTo}
use Rattle.eqn_order.proofs.Places.{within, Stands-keep, Stands-last, Stands-cases, Stands-none, same_or_not, row_inside}

row_none : (n v : ℕ) → row (replicate n []) v ≡ []
row_none zero v = refl
row_none (suc n) zero = refl
row_none (suc n) (suc v) = row_none n v

-- no edge is reversed yet
pub reverses_none : (R : List (List ℕ)) (n : ℕ) → n ≡ length R → IsReversedTo R 0 0 (replicate n [])
reverses_none R n e = record {
  sized = length-replicate n [] ∙ e;
  only = λ v w s. Stands-none v (subst (λ xs. Stands xs v) (row_none n w) s);
  rows = λ v w l g. absurd (omega arith);
  front = λ c w l g. absurd (omega arith);
}

-- one more is
pub reverses_one : (R : List (List ℕ)) (i j w : ℕ) (Q : List (List ℕ)) → IsReversedTo R i j Q → slice_get (row R i) j ≡ Some w → w < length R → IsReversedTo R i (j + 1) (set Q w (row Q w ++ i ∷ []))
reverses_one R i j w Q h e l = record {
  sized = length-set Q w (row Q w ++ i ∷ []) ∙ h.sized;
  only = λ v u s. elim (same_or_not u w) [
    | inl d ↦ (elim (Stands-cases (row Q w) i v (subst (λ xs. Stands xs v) here (subst (λ z. Stands (row (set Q w (row Q w ++ i ∷ [])) z) v) d s))) [
      | inl s' ↦ subst (λ z. IsEdge R v z) (sym d) (h.only v w s')
      | inr same ↦ subst (λ z. IsEdge R z u) same (subst (λ z. IsEdge R i z) (sym d) (record { place = j; is = e }))
    ])
    | inr n ↦ h.only v u (subst (λ xs. Stands xs v) (get_or-set_other Q w u (row Q w ++ i ∷ []) [] n) s)
  ];
  rows = λ v u m g. keep v u (h.rows v u m g);
  front = λ c u m g. elim (same_or_not c j) [
    | inl d ↦ last c u d g
    | inr n ↦ keep i u (h.front c u (omega arith) g)
  ];
}
  where
    here : row (set Q w (row Q w ++ i ∷ [])) w ≡ row Q w ++ i ∷ []
    here = get_or-set_same Q w (row Q w ++ i ∷ []) [] (omega (arith, h.sized))

    keep : (v u : ℕ) → IsEdge Q u v → IsEdge (set Q w (row Q w ++ i ∷ [])) u v
    keep v u s = elim (same_or_not u w) [
      | inl d ↦ subst (λ z. IsEdge (set Q w (row Q w ++ i ∷ [])) z v) (sym d) (subst (λ xs. Stands xs v) (sym here) (Stands-keep (row Q w) (i ∷ []) v (subst (λ z. IsEdge Q z v) d s)))
      | inr n ↦ subst (λ xs. Stands xs v) (sym (get_or-set_other Q w u (row Q w ++ i ∷ []) [] n)) s
    ]

    last : (c u : ℕ) → c ≡ j → slice_get (row R i) c ≡ Some u → IsEdge (set Q w (row Q w ++ i ∷ [])) u i
    last c u d g =
        let g' : slice_get (row R i) j ≡ Some u = subst (λ z. slice_get (row R i) z ≡ Some u) d g in
        let same : w ≡ u = cc in
        subst (λ z. IsEdge (set Q w (row Q w ++ i ∷ [])) z i) same (subst (λ xs. Stands xs i) (sym here) (Stands-last (row Q w) i))

-- a whole row is
pub reverses_row : (R : List (List ℕ)) (i j : ℕ) (Q : List (List ℕ)) → IsReversedTo R i j Q → length (row R i) ≤ j → IsReversedTo R (i + 1) 0 Q
reverses_row R i j Q h l = record {
  sized = h.sized;
  only = h.only;
  rows = λ v w m g. elim (same_or_not v i) [
    | inl d ↦ subst (λ z. IsEdge Q w z) (sym d) (at (subst (λ z. IsEdge R z w) d g))
    | inr n ↦ h.rows v w (omega arith) g
  ];
  front = λ c w m g. absurd (omega arith);
}
  where
    at : {w : ℕ} → IsEdge R i w → IsEdge Q w i
    at {w} g = h.front g.place w (omega (arith, within (row R i) g.place w g.is)) g.is

-- all rows are
pub reverses_all : (R : List (List ℕ)) (i : ℕ) (Q : List (List ℕ)) → IsReversedTo R i 0 Q → length R ≤ i → AreReversed R Q
reverses_all R i Q h l = record {
  sized = h.sized;
  back = λ v w g. h.rows v w (omega (arith, row_inside R v w g)) g;
  only = λ v w g. h.only v w g;
}
