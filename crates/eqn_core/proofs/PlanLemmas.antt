-- The cyclic bits of a plan.
use Rattle.std.proofs.Common.{◌≡◌, ℕ, zero, suc, ◌<◌, List, [], ◌∷◌, Bool, true, false, ◌&&◌, ◌||◌, nat_eq, cond, Some, inl, inr, refl, sym, ap, ◌∙◌, subst, arith}
use Rattle.std.specs.Prelude.{◌↔◌, filter, slice_get}
use Rattle.std.proofs.lemmas.Bool.Decides.{nat_tests}
use Rattle.argos_base.specs.SignalSets.{lists}
use Rattle.argos_base.proofs.Bools.{true_or_false, or_left, or_right, and_first, and_second, and_both}
use Rattle.eqn_core.specs.Dependence.{IsCyclicBit}
use Rattle.eqn_core.specs.Equations.{Equations}
use Rattle.eqn_core.specs.Laws.{PlansHaveOneCyclic}
use Rattle.eqn_core.specs.Plans.{AreCyclicBits}

-- two tests that mean the same agree
tests-agree : (p q : Bool) (C : Type 0) → (p ≡ true) ↔ C → (q ≡ true) ↔ C → p ≡ q
tests-agree true true C h i = refl
tests-agree true false C h i = sym (i.1 (h.0 refl))
tests-agree false true C h i = h.1 (i.0 refl)
tests-agree false false C h i = refl

-- tests that agree on a list choose the same of it
filter-agree : (p q : ℕ → Bool) (xs : List ℕ) → ((k : ℕ) → lists xs k ≡ true → p k ≡ q k) → filter p xs ≡ filter q xs
filter-agree p q [] h = refl
filter-agree p q (x ∷ xs) h =
    ap (λ (b : Bool). cond b (x ∷ filter p xs) (filter p xs)) (h x (or_left (nat_eq x x) (lists xs x) (same x)))
    ∙ ap (λ (ys : List ℕ). cond (q x) (x ∷ ys) ys) (filter-agree p q xs (λ k l. h k (or_right (nat_eq x k) (lists xs k) l)))
  where
    same : (k : ℕ) → nat_eq k k ≡ true
    same k = grind (arith, nat_tests)

pub plans_have_one_cyclic : PlansHaveOneCyclic
plans_have_one_cyclic E order order' cyclic cyclic' h h' =
    let c = h.cyclic_bits in
    let c' = h'.cyclic_bits in
    c.is ∙ filter-agree c.test c'.test E.locals (λ k l. tests-agree (c.test k) (c'.test k) (IsCyclicBit E k) (c.exact k l) (c'.exact k l)) ∙ sym c'.is

-- what a test chooses of a list is in the list and passes, and nothing else is
pub lists-filter : (p : ℕ → Bool) (xs : List ℕ) (k : ℕ) → lists (filter p xs) k ≡ (lists xs k && p k)
lists-filter p [] k = refl
lists-filter p (x ∷ xs) k = elim (true_or_false (p x)) [
  | inl t ↦ ap (λ (b : Bool). lists (cond b (x ∷ filter p xs) (filter p xs)) k) t ∙ ap (λ (b : Bool). nat_eq x k || b) (lists-filter p xs k) ∙ taken x k (lists xs k) t
  | inr f ↦ ap (λ (b : Bool). lists (cond b (x ∷ filter p xs) (filter p xs)) k) f ∙ lists-filter p xs k ∙ left x k (lists xs k) f
]
  where
    equal : (a b : ℕ) → nat_eq a b ≡ true → a ≡ b
    equal a b h = grind (arith, nat_tests)

    both : (a b : Bool) → b ≡ true → (true || (a && b)) ≡ ((true || a) && b)
    both a b h = sym h

    none : (a b : Bool) → b ≡ false → (a && b) ≡ ((true || a) && b)
    none true b h = refl
    none false b h = sym h

    taken : (x k : ℕ) (a : Bool) → p x ≡ true → (nat_eq x k || (a && p k)) ≡ ((nat_eq x k || a) && p k)
    taken x k a t = elim (true_or_false (nat_eq x k)) [
      | inl e ↦ rw e (both a (p k) (sym (ap p (equal x k e)) ∙ t))
      | inr e ↦ rw e refl
    ]

    left : (x k : ℕ) (a : Bool) → p x ≡ false → (a && p k) ≡ ((nat_eq x k || a) && p k)
    left x k a f = elim (true_or_false (nat_eq x k)) [
      | inl e ↦ rw e (none a (p k) (sym (ap p (equal x k e)) ∙ f))
      | inr e ↦ rw e refl
    ]

-- a cyclic bit is local and depends on itself
pub cyclic_are : (E : Equations) (cyclic : List ℕ) → AreCyclicBits E cyclic → (k : ℕ) → lists cyclic k ≡ true → (lists E.locals k ≡ true) × IsCyclicBit E k
cyclic_are E cyclic h k l =
    let both : (lists E.locals k && h.test k) ≡ true = sym (lists-filter h.test E.locals k) ∙ ap (λ (ks : List ℕ). lists ks k) (sym h.is) ∙ l in
    let local : lists E.locals k ≡ true = and_first _ _ both in
    (local, (h.exact k local).0 (and_second (lists E.locals k) _ both))

-- and each local bit that depends on itself is listed
pub cyclic_all : (E : Equations) (cyclic : List ℕ) → AreCyclicBits E cyclic → (k : ℕ) → lists E.locals k ≡ true → IsCyclicBit E k → lists cyclic k ≡ true
cyclic_all E cyclic h k l c = ap (λ (ks : List ℕ). lists ks k) h.is ∙ lists-filter h.test E.locals k ∙ and_both _ _ l ((h.exact k l).1 c)

-- two places of a list, the first before the second
pub record ArePlaces (xs : List ℕ) (x y : ℕ) : Type 0 where
  pub first : ℕ
  pub second : ℕ
  pub in_order : first < second
  pub first_is : slice_get xs first ≡ Some x
  pub second_is : slice_get xs second ≡ Some y

record IsPlace (xs : List ℕ) (x : ℕ) : Type 0 where
  place : ℕ
  is : slice_get xs place ≡ Some x

filter_place : (p : ℕ → Bool) (xs : List ℕ) (a x : ℕ) → slice_get (filter p xs) a ≡ Some x → IsPlace xs x
filter_place p [] a x e = record { place = a; is = e }
filter_place p (z ∷ xs) a x e = elim (true_or_false (p z)) [
  | inl t ↦ taken (λ j g. filter_place p xs j x g) a (subst (λ (b : Bool). slice_get (cond b (z ∷ filter p xs) (filter p xs)) a ≡ Some x) t e)
  | inr f ↦ behind (filter_place p xs a x (subst (λ (b : Bool). slice_get (cond b (z ∷ filter p xs) (filter p xs)) a ≡ Some x) f e))
]
  where
    behind : IsPlace xs x → IsPlace (z ∷ xs) x
    behind h = record { place = suc h.place; is = h.is }

    taken : ((j : ℕ) → slice_get (filter p xs) j ≡ Some x → IsPlace xs x) → (a : ℕ) → slice_get (z ∷ filter p xs) a ≡ Some x → IsPlace (z ∷ xs) x
    taken rest zero e = record { place = 0; is = e }
    taken rest (suc a) e = behind (rest a e)

filter_places : (p : ℕ → Bool) (xs : List ℕ) (a b x y : ℕ) → a < b → slice_get (filter p xs) a ≡ Some x → slice_get (filter p xs) b ≡ Some y → ArePlaces xs x y
filter_places p [] a b x y l e f = record { first = a; second = b; in_order = l; first_is = e; second_is = f }
filter_places p (z ∷ xs) a b x y l e f = elim (true_or_false (p z)) [
  | inl t ↦ taken (λ i j m g h. filter_places p xs i j x y m g h) a b l (subst (λ (c : Bool). slice_get (cond c (z ∷ filter p xs) (filter p xs)) a ≡ Some x) t e) (subst (λ (c : Bool). slice_get (cond c (z ∷ filter p xs) (filter p xs)) b ≡ Some y) t f)
  | inr n ↦ behind (filter_places p xs a b x y l (subst (λ (c : Bool). slice_get (cond c (z ∷ filter p xs) (filter p xs)) a ≡ Some x) n e) (subst (λ (c : Bool). slice_get (cond c (z ∷ filter p xs) (filter p xs)) b ≡ Some y) n f))
]
  where
    behind : ArePlaces xs x y → ArePlaces (z ∷ xs) x y
    behind h = record { first = suc h.first; second = suc h.second; in_order = omega (arith, h.in_order); first_is = h.first_is; second_is = h.second_is }

    taken : ((i j : ℕ) → i < j → slice_get (filter p xs) i ≡ Some x → slice_get (filter p xs) j ≡ Some y → ArePlaces xs x y) → (a b : ℕ) → a < b → slice_get (z ∷ filter p xs) a ≡ Some x → slice_get (z ∷ filter p xs) b ≡ Some y → ArePlaces (z ∷ xs) x y
    taken rest a zero l e f = absurd (omega arith)
    taken rest zero (suc b) l e f = let h = filter_place p xs b y f in record { first = 0; second = suc h.place; in_order = omega arith; first_is = e; second_is = h.is }
    taken rest (suc a) (suc b) l e f = behind (rest a b (omega arith) e f)

-- the cyclic bits stand in the order of the locals
pub cyclic_order : (E : Equations) (cyclic : List ℕ) → AreCyclicBits E cyclic → (a b x y : ℕ) → a < b → slice_get cyclic a ≡ Some x → slice_get cyclic b ≡ Some y → ArePlaces E.locals x y
cyclic_order E cyclic h a b x y l e f = filter_places h.test E.locals a b x y l (subst (λ (ks : List ℕ). slice_get ks a ≡ Some x) h.is e) (subst (λ (ks : List ℕ). slice_get ks b ≡ Some y) h.is f)
