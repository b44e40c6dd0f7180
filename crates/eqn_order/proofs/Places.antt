-- Places in lists, and what edges reach.
use Rattle.std.proofs.Common.{◌≡◌, ◌⊎◌, inl, inr, ℕ, zero, suc, ◌+◌, ◌<◌, ◌≢◌, List, [], ◌∷◌, ◌++◌, Some, Bool, true, false, length, get_or, set, slice_get, refl, ap, arith, ◌≤◌, sym}
use Rattle.std.proofs.lemmas.Option.{slice_get_within}
use Rattle.std.proofs.lemmas.Bool.Decides.{nat_tests}
use Rattle.std.specs.Prelude.{nat_eq, nat_le}
use Rattle.argos_base.specs.SignalSets.{has}
use Rattle.argos_base.proofs.Bools.{true_or_false}
use Rattle.eqn_order.specs.inner.Graphs.{row, Stands, IsEdge, Reach, here, along}
use Rattle.eqn_order.specs.inner.Searches.{unseen, unfollowed}

pub within : (xs : List ℕ) (i x : ℕ) → slice_get xs i ≡ Some x → i < length xs
within xs i x e = slice_get_within xs i x e

-- what stands in a list stands in a longer one
pub get-keep : (xs ys : List ℕ) (i x : ℕ) → slice_get xs i ≡ Some x → slice_get (xs ++ ys) i ≡ Some x
get-keep [] ys i x e = absurd (omega (arith, within [] i x e))
get-keep (z ∷ xs) ys zero x e = e
get-keep (z ∷ xs) ys (suc i) x e = get-keep xs ys i x e

pub get-last : (xs : List ℕ) (t : ℕ) → slice_get (xs ++ t ∷ []) (length xs) ≡ Some t
get-last [] t = refl
get-last (z ∷ xs) t = get-last xs t

-- in a list with one more it stands before, or it is that one
pub get-cases : (xs : List ℕ) (t i x : ℕ) → slice_get (xs ++ t ∷ []) i ≡ Some x → (slice_get xs i ≡ Some x) ⊎ ((i ≡ length xs) × (t ≡ x))
get-cases [] t zero x e = inr (refl, cc)
get-cases [] t (suc i) x e = absurd (omega (arith, within (t ∷ []) (suc i) x e))
get-cases (z ∷ xs) t zero x e = inl e
get-cases (z ∷ xs) t (suc i) x e = elim (get-cases xs t i x e) [ inl h ↦ inl h | inr h ↦ inr (ap suc h.0, h.1) ]

pub same_get : (xs : List ℕ) (i x y : ℕ) → slice_get xs i ≡ Some x → slice_get xs i ≡ Some y → x ≡ y
same_get xs i x y e f = cc

pub Stands-keep : (xs ys : List ℕ) (x : ℕ) → Stands xs x → Stands (xs ++ ys) x
Stands-keep xs ys x h = record { place = h.place; is = get-keep xs ys h.place x h.is }

pub Stands-last : (xs : List ℕ) (t : ℕ) → Stands (xs ++ t ∷ []) t
Stands-last xs t = record { place = length xs; is = get-last xs t }

pub Stands-cases : (xs : List ℕ) (t x : ℕ) → Stands (xs ++ t ∷ []) x → Stands xs x ⊎ (t ≡ x)
Stands-cases xs t x h = elim (get-cases xs t h.place x h.is) [ inl e ↦ inl (record { place = h.place; is = e }) | inr e ↦ inr e.1 ]

pub Stands-none : {A : Type 0} (x : ℕ) → Stands [] x → A
Stands-none x h = absurd (omega (arith, within [] h.place x h.is))

pub Stands-first : (xs : List ℕ) (t : ℕ) → Stands (t ∷ xs) t
Stands-first xs t = record { place = 0; is = refl }

pub Stands-behind : (xs : List ℕ) (t x : ℕ) → Stands xs x → Stands (t ∷ xs) x
Stands-behind xs t x h = record { place = suc h.place; is = h.is }

pub Stands-either : (xs : List ℕ) (t x : ℕ) → Stands (t ∷ xs) x → (t ≡ x) ⊎ Stands xs x
Stands-either xs t x h = at h.place h.is
  where
    at : (i : ℕ) → slice_get (t ∷ xs) i ≡ Some x → (t ≡ x) ⊎ Stands xs x
    at zero e = inl cc
    at (suc i) e = inr (record { place = i; is = e })

pub joined : (R : List (List ℕ)) (x y z : ℕ) → Reach R x y → Reach R y z → Reach R x z
joined R x y z (here v) h = h
joined R x y z (along v w u e g) h = along v w z e (joined R w y z g h)

pub one_more : (R : List (List ℕ)) (x y z : ℕ) → Reach R x y → IsEdge R y z → Reach R x z
one_more R x y z h e = joined R x y z h (along y z z e (here z))

-- a number is another one or not
pub same_or_not : (a b : ℕ) → (a ≡ b) ⊎ (a ≢ b)
same_or_not a b = elim (true_or_false (nat_eq a b)) [ inl e ↦ inl (equal a b e) | inr e ↦ inr (other a b e) ]
  where
    equal : (a b : ℕ) → nat_eq a b ≡ true → a ≡ b
    equal a b h = grind (arith, nat_tests)

    other : (a b : ℕ) → nat_eq a b ≡ false → a ≢ b
    other a b h = λ e. clash a b h e
      where
        clash : (a b : ℕ) → nat_eq a b ≡ false → a ≡ b → ⊥
        clash a b h e = grind (arith, nat_tests)

-- marking one more
pub has-set_same : (seen : List Bool) (x : ℕ) → x < length seen → has (set seen x true) x ≡ true
has-set_same [] x l = absurd (omega arith)
has-set_same (b ∷ seen) zero l = refl
has-set_same (b ∷ seen) (suc x) l = has-set_same seen x (omega arith)

pub has-set_keep : (seen : List Bool) (x y : ℕ) → has seen y ≡ true → has (set seen x true) y ≡ true
has-set_keep [] x y h = cc
has-set_keep (b ∷ seen) zero zero h = refl
has-set_keep (b ∷ seen) zero (suc y) h = h
has-set_keep (b ∷ seen) (suc x) zero h = h
has-set_keep (b ∷ seen) (suc x) (suc y) h = has-set_keep seen x y h

pub has-set_cases : (seen : List Bool) (x y : ℕ) → has (set seen x true) y ≡ true → (has seen y ≡ true) ⊎ (x ≡ y)
has-set_cases [] x y h = cc
has-set_cases (b ∷ seen) zero zero h = inr refl
has-set_cases (b ∷ seen) zero (suc y) h = inl h
has-set_cases (b ∷ seen) (suc x) zero h = inl h
has-set_cases (b ∷ seen) (suc x) (suc y) h = elim (has-set_cases seen x y h) [ inl e ↦ inl e | inr e ↦ inr (ap suc e) ]

pub unseen-set : (seen : List Bool) (x : ℕ) → x < length seen → has seen x ≡ false → unseen (set seen x true) + 1 ≡ unseen seen
unseen-set [] x l h = absurd (omega arith)
unseen-set (true ∷ seen) zero l h = cc
unseen-set (false ∷ seen) zero l h = omega arith
unseen-set (true ∷ seen) (suc x) l h = unseen-set seen x (omega arith) h
unseen-set (false ∷ seen) (suc x) l h = omega (arith, unseen-set seen x (omega arith) h)

pub all_seen : (seen : List Bool) → ((x : ℕ) → x < length seen → has seen x ≡ true) → unseen seen ≡ 0
all_seen [] h = refl
all_seen (true ∷ seen) h = all_seen seen (λ x l. h (suc x) (omega arith))
all_seen (false ∷ seen) h = let e : has (false ∷ seen) 0 ≡ true = h 0 (omega arith) in cc

-- following one more edge
pub unfollowed-set : (R : List (List ℕ)) (followed : List ℕ) (v : ℕ) → v < length R → length followed ≡ length R → get_or followed v 0 < length (row R v) → unfollowed R (set followed v (get_or followed v 0 + 1)) + 1 ≡ unfollowed R followed
unfollowed-set [] followed v l s h = absurd (omega arith)
unfollowed-set (r ∷ R) [] v l s h = absurd (omega arith)
unfollowed-set (r ∷ R) (c ∷ followed) zero l s h = omega arith
unfollowed-set (r ∷ R) (c ∷ followed) (suc v) l s h = omega (arith, unfollowed-set R followed v (omega arith) (omega arith) h)

-- what stands at a place, and what the code read there with another default
pub get_at : (xs : List ℕ) (k : ℕ) → k < length xs → slice_get xs k ≡ Some (get_or xs k 0)
get_at [] k l = absurd (omega arith)
get_at (x ∷ xs) zero l = refl
get_at (x ∷ xs) (suc k) l = get_at xs k (omega arith)

pub read_number : (xs : List ℕ) (i d : ℕ) → i < length xs → d ≡ get_or xs i d → get_or xs i 0 ≡ d
read_number [] i d l e = absurd (omega arith)
read_number (x ∷ xs) zero d l e = sym e
read_number (x ∷ xs) (suc i) d l e = read_number xs i d (omega arith) e

pub read_bool : (xs : List Bool) (i : ℕ) (d : Bool) → i < length xs → d ≡ get_or xs i d → has xs i ≡ d
read_bool [] i d l e = absurd (omega arith)
read_bool (x ∷ xs) zero d l e = sym e
read_bool (x ∷ xs) (suc i) d l e = read_bool xs i d (omega arith) e

-- edges leave lines of the graph
pub row_inside : (rows : List (List ℕ)) (v w : ℕ) → Stands (row rows v) w → v < length rows
row_inside [] v w g = Stands-none w g
row_inside (r ∷ rows) zero w g = omega arith
row_inside (r ∷ rows) (suc v) w g = omega (arith, row_inside rows v w g)

pub at_most_or_above : (a b : ℕ) → (a ≤ b) ⊎ (b < a)
at_most_or_above a b = elim (true_or_false (nat_le a b)) [ inl e ↦ inl (low a b e) | inr e ↦ inr (high a b e) ]
  where
    low : (a b : ℕ) → nat_le a b ≡ true → a ≤ b
    low a b e = grind (arith, nat_tests)

    high : (a b : ℕ) → nat_le a b ≡ false → b < a
    high a b e = grind (arith, nat_tests)
