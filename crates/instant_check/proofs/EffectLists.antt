-- Effects of transitions compared: emitted signals listed in one another, and each transition against the first.
use Rattle.std.proofs.Common.{◌≡◌, ℕ, zero, suc, ◌+◌, ◌<◌, ◌≤◌, List, [], ◌∷◌, Option, Some, Bool, true, false, nat_eq, length, get_or, slice_get, refl, sym, ap, ◌∙◌, subst, arith, inl, inr, ◌⊎◌}
use Rattle.std.proofs.lemmas.Option.{slice_get_within}
use Rattle.argos_base.specs.SignalSets.{lists, set_of, has}
use Rattle.argos_base.specs.declared.signals.SigId.{SigId}
use Rattle.argos_base.proofs.Bools.{or_left, or_right, or_cases}
use Rattle.argos_base.proofs.SetLemmas.{set_where-agree, has-set_where}
use Rattle.argos_core.specs.Overlaps.{HaveOneEffect}
use Rattle.argos_core.specs.Process.{Transition}
use Rattle.argos_core.specs.Views.{numbers}
use Rattle.argos_core.proofs.Numbers.{nat_eq-same}
use Rattle.instant_check.specs.Effects.{SomeDiffer}
use Rattle.instant_check.proofs.Places.{nat_eq-true}

-- the signals below n of the one list stand in the other
abbrev pub AreListed : ℕ → List ℕ → List ℕ → Type 0
AreListed n xs ys = (k : ℕ) → k < n → lists xs k ≡ true → lists ys k ≡ true

-- the same of the first i of the list
abbrev pub AreListedUpTo : ℕ → List SigId → List SigId → ℕ → Type 0
AreListedUpTo n xs ys i = (j : ℕ) (d : SigId) → j < i → (get_or xs j d).0 < n → lists (numbers ys) (get_or xs j d).0 ≡ true

listed_each : (n : ℕ) (xs ys : List SigId) → AreListedUpTo n xs ys (length xs) → AreListed n (numbers xs) (numbers ys)
listed_each n [] ys each k below h = cc
listed_each n (x ∷ xs) ys each k below h = elim (or_cases (nat_eq x.0 k) (lists (numbers xs) k) h) [
  | inl e ↦ let same : x.0 ≡ k = nat_eq-true x.0 k e in
      ap (lists (numbers ys)) (sym same) ∙ each 0 x (omega arith) (omega arith)
  | inr r ↦ listed_each n xs ys (λ j d j_below. each (suc j) d (omega arith)) k below r
]

pub listed_all : (n i : ℕ) (xs ys : List SigId) → length xs ≤ i → AreListedUpTo n xs ys i → AreListed n (numbers xs) (numbers ys)
listed_all n i xs ys all each = listed_each n xs ys (λ j d below. each j d (omega arith))

pub lists_at : (xs : List SigId) (j : ℕ) (d : SigId) → j < length xs → lists (numbers xs) (get_or xs j d).0 ≡ true
lists_at [] j d below = absurd (omega arith)
lists_at (x ∷ xs) zero d below = or_left (nat_eq x.0 x.0) (lists (numbers xs) x.0) (nat_eq-same x.0)
lists_at (x ∷ xs) (suc j) d below = or_right (nat_eq x.0 (get_or xs j d).0) (lists (numbers xs) (get_or xs j d).0) (lists_at xs j d (omega arith))

same_tests : (a b : Bool) → (a ≡ true → b ≡ true) → (b ≡ true → a ≡ true) → a ≡ b
same_tests true b p q = sym (p refl)
same_tests false true p q = q refl
same_tests false false p q = refl

-- lists whose signals stand in one another give one set
pub one_set : (n : ℕ) (xs ys : List ℕ) → AreListed n xs ys → AreListed n ys xs → set_of n xs ≡ set_of n ys
one_set n xs ys p q = set_where-agree n (lists xs) (lists ys) (λ k below. same_tests (lists xs k) (lists ys k) (p k below) (q k below))

pub listed_from : (n : ℕ) (xs ys : List ℕ) → set_of n xs ≡ set_of n ys → AreListed n xs ys
listed_from n xs ys e k below h = sym (has-set_where n (lists ys) k below) ∙ ap (λ s. has s k) (sym e) ∙ has-set_where n (lists xs) k below ∙ h

-- ---- transitions against the first

pub record AlikeUpTo (n : ℕ) (ts : List Transition) (i : ℕ) : Type 0 where
  pub each : (j : ℕ) (t u : Transition) → j < i → slice_get ts 0 ≡ Some t → slice_get ts j ≡ Some u → HaveOneEffect n t u

pub alike_none : (n : ℕ) (ts : List Transition) → AlikeUpTo n ts 0
alike_none n ts = record { each = λ j t u below. absurd (omega arith) }

one_transition : {t u : Transition} → ◌≡◌ {A = Option Transition} (Some t) (Some u) → t ≡ u
one_transition e = cc

pub alike_more : (n : ℕ) (ts : List Transition) (i : ℕ) (t u : Transition) → AlikeUpTo n ts i → slice_get ts 0 ≡ Some t → slice_get ts i ≡ Some u → HaveOneEffect n t u → AlikeUpTo n ts (i + 1)
alike_more n ts i t u before at_t at_u alike = record { each = λ j t' u' below at_t' at_u'. at j t' u' below at_t' at_u' (last j i below) }
  where
    last : (j i : ℕ) → j < i + 1 → (j < i) ⊎ (j ≡ i)
    last j i below = grind arith

    at : (j : ℕ) (t' u' : Transition) → j < i + 1 → slice_get ts 0 ≡ Some t' → slice_get ts j ≡ Some u' → (j < i) ⊎ (j ≡ i) → HaveOneEffect n t' u'
    at j t' u' below at_t' at_u' (inl less) = before.each j t' u' less at_t' at_u'
    at j t' u' below at_t' at_u' (inr same) =
        let p : t ≡ t' = one_transition (sym at_t ∙ at_t') in
        let q : u ≡ u' = one_transition (sym at_u ∙ ap (slice_get ts) (sym same) ∙ at_u') in
        subst (λ (z : Transition). HaveOneEffect n z u') p (subst (λ (z : Transition). HaveOneEffect n t z) q alike)

pub none_differ : (n : ℕ) (ts : List Transition) (i : ℕ) → length ts ≤ i → AlikeUpTo n ts i → ¬ (SomeDiffer n ts)
none_differ n [] i all alike d = absurd (let b = slice_get_within [] d.x d.first d.first_at in omega arith)
none_differ n (t ∷ ts) i all alike d =
    let b = slice_get_within (t ∷ ts) d.x d.first d.first_at in
    let e = slice_get_within (t ∷ ts) d.y d.second d.second_at in
    let p = alike.each d.x t d.first (omega (arith, b)) refl d.first_at in
    let q = alike.each d.y t d.second (omega (arith, e)) refl d.second_at in
    d.differ (sym p.0 ∙ q.0, sym p.1 ∙ q.1)

pub some_differ_here : (n : ℕ) (ts : List Transition) (i : ℕ) (t u : Transition) → slice_get ts 0 ≡ Some t → slice_get ts i ≡ Some u → ¬ (HaveOneEffect n t u) → SomeDiffer n ts
some_differ_here n ts zero t u at_t at_u differ =
    let same : t ≡ u = one_transition (sym at_t ∙ at_u) in
    absurd (differ (ap (λ (z : Transition). z.target) same, ap (λ (z : Transition). set_of n z.outs) same))
some_differ_here n ts (suc i) t u at_t at_u differ = record { x = 0; y = suc i; order = omega arith; first = t; first_at = at_t; second = u; second_at = at_u; differ = differ }

pub true_and_false : {b : Bool} → b ≡ true → b ≡ false → ⊥
true_and_false p q = cc
