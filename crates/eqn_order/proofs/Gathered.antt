-- The search of the reversed graph, as the code takes it.
use Rattle.std.proofs.Common.{◌≡◌, inl, inr, ℕ, zero, suc, ◌+◌, ◌<◌, ◌≤◌, List, [], ◌∷◌, ◌++◌, Some, Bool, true, false, length, get_or, set, slice_get, refl, sym, ap, ◌∙◌, subst, arith}
use Rattle.std.specs.Prelude.{All}
use Rattle.argos_base.specs.SignalSets.{has}
use Rattle.argos_base.proofs.SetLemmas.{has-below}
use Rattle.eqn_order.specs.inner.Graphs.{row, Stands, IsEdge, AreRows}
use Rattle.eqn_order.specs.inner.Searches.{ends, Gathers}
use Rattle.eqn_order.proofs.Places.{has-set_same, has-set_keep, same_or_not, get_at}
use Rattle.eqn_order.proofs.Crossing.{adds, can_add}

pub stands_at : (xs : List ℕ) (k : ℕ) → k < length xs → Stands xs (get_or xs k 0)
stands_at xs k l = record { place = k; is = get_at xs k l }

module _ (Q : List (List ℕ)) (F : List ℕ) (lo k : ℕ) where
  pub starts : (seen seen' : List Bool) (roots roots' waiting waiting' : List ℕ) → Gathers Q F lo k seen roots [] → waiting ≡ [] → k < length F → get_or F k 0 < length Q → has seen (get_or F k 0) ≡ false → seen' ≡ set seen (get_or F k 0) true → roots' ≡ set roots (get_or F k 0) k → waiting' ≡ waiting ++ get_or F k 0 ∷ [] → Gathers Q F lo k seen' roots' waiting' × (has seen' (get_or F k 0) ≡ true)
  starts seen seen' roots roots' waiting waiting' h w l inside new s r w' =
      let t : ℕ = get_or F k 0 in
      let added : Gathers Q F lo k (set seen t true) (set roots t k) (t ∷ []) = adds Q F lo k t seen roots [] h inside new (record { place = k; is = get_at F k l; below = omega arith; walk = ends }) in
      let w'' : t ∷ [] ≡ waiting' = ap (λ (xs : List ℕ). xs ++ t ∷ []) (sym w) ∙ sym w' in (
        subst (λ xs. Gathers Q F lo k xs roots' waiting') (sym s) (subst (λ xs. Gathers Q F lo k (set seen t true) xs waiting') (sym r) (subst (λ xs. Gathers Q F lo k (set seen t true) (set roots t k) xs) w'' added)),
        ap (λ (xs : List Bool). has xs t) s ∙ has-set_same seen t (omega (arith, h.seen_sized)),
      )

  -- a line that waits is one of the graph
  pub waits_inside : (seen : List Bool) (roots waiting : List ℕ) (x : ℕ) → Gathers Q F lo k seen roots waiting → Stands waiting x → x < length Q
  waits_inside seen roots waiting x h s = omega (arith, has-below seen x (h.waits x s).0, h.seen_sized)

  -- one more reader of the line v is added
  pub adds_reader : (seen seen' : List Bool) (roots roots' waiting waiting' : List ℕ) (v t : ℕ) → lo ≤ k + 1 → ((u : ℕ) → u < length Q → Stands F u) → AreRows Q → Gathers Q F lo k seen roots (v ∷ waiting) → IsEdge Q v t → has seen t ≡ false → seen' ≡ set seen t true → roots' ≡ set roots t k → waiting' ≡ waiting ++ t ∷ [] → Gathers Q F lo k seen' roots' (v ∷ waiting')
  adds_reader seen seen' roots roots' waiting waiting' v t low each rows h g new s r w =
      let l : t < length Q = rows v t g in
      let added : Gathers Q F lo k (set seen t true) (set roots t k) (v ∷ (waiting ++ t ∷ [])) = adds Q F lo k t seen roots (v ∷ waiting) h l new (can_add Q F lo k t v seen roots waiting low each h l g new) in
      subst (λ xs. Gathers Q F lo k xs roots' (v ∷ waiting')) (sym s) (subst (λ xs. Gathers Q F lo k (set seen t true) xs (v ∷ waiting')) (sym r) (subst (λ xs. Gathers Q F lo k (set seen t true) (set roots t k) (v ∷ xs)) (sym w) added))

-- what was seen of a row, one further
pub seen_more : (seen : List Bool) (xs : List ℕ) (i : ℕ) → i < length xs → ((c x : ℕ) → c < i → slice_get xs c ≡ Some x → has seen x ≡ true) → has seen (get_or xs i 0) ≡ true → (c x : ℕ) → c < i + 1 → slice_get xs c ≡ Some x → has seen x ≡ true
seen_more seen xs i l h s c x m e = elim (same_or_not c i) [ inl d ↦ at c d e | inr n ↦ h c x (omega arith) e ]
  where
    at : (c : ℕ) → c ≡ i → slice_get xs c ≡ Some x → has seen x ≡ true
    at c d e =
        let e' : slice_get xs i ≡ Some x = subst (λ j. slice_get xs j ≡ Some x) d e in
        let f : slice_get xs i ≡ Some (get_or xs i 0) = get_at xs i l in
        let same : get_or xs i 0 ≡ x = cc in
        subst (λ z. has seen z ≡ true) same s

pub seen_keep : (seen seen' : List Bool) (xs : List ℕ) (i t : ℕ) → seen' ≡ set seen t true → ((c x : ℕ) → c < i → slice_get xs c ≡ Some x → has seen x ≡ true) → (c x : ℕ) → c < i → slice_get xs c ≡ Some x → has seen' x ≡ true
seen_keep seen seen' xs i t s h c x m e = ap (λ (ys : List Bool). has ys x) s ∙ has-set_keep seen t x (h c x m e)

pub edge_at : (Q : List (List ℕ)) (v : ℕ) (xs : List ℕ) (i : ℕ) → xs ≡ row Q v → i < length xs → IsEdge Q v (get_or xs i 0)
edge_at Q v xs i e l = subst (λ ys. Stands ys (get_or xs i 0)) e (stands_at xs i l)

get_any : (xs : List ℕ) (k d : ℕ) → k < length xs → get_or xs k d ≡ get_or xs k 0
get_any [] k d l = absurd (omega arith)
get_any (x ∷ xs) zero d l = refl
get_any (x ∷ xs) (suc k) d l = get_any xs k d (omega arith)

-- the lines of a row are below the number of rows
pub all_in_row : (Q : List (List ℕ)) (v n : ℕ) (xs : List ℕ) → AreRows Q → length Q ≡ n → xs ≡ row Q v → All (λ w. w < n) xs
all_in_row Q v n xs rows e r = λ k d l. omega (arith, rows v (get_or xs k 0) (edge_at Q v xs k r l), get_any xs k d l)
