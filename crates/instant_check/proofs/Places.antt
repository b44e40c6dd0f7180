-- Places of signals in a list.
use Rattle.std.proofs.Common.{◌≡◌, ℕ, zero, suc, ◌+◌, ◌<◌, List, [], ◌∷◌, Some, Bool, true, false, ◌||◌, not, map, length, get_or, drop, slice_get, refl, sym, ap, ◌∙◌, subst, arith, nat_eq, inl, inr}
use Rattle.argos_base.specs.declared.signals.SigId.{SigId}
use Rattle.argos_base.specs.SignalSets.{SignalSet, has, lists}
use Rattle.argos_core.specs.Views.{numbers}
use Rattle.argos_core.proofs.Numbers.{same_or_other, nat_eq-other}

-- a signal that is listed from a place on, and stands behind that place
pub listed-inside : (signals : List SigId) (place s : ℕ) → lists (numbers (drop place signals)) s ≡ true → place < length signals
listed-inside [] zero s h = cc
listed-inside [] (suc place) s h = cc
listed-inside (t ∷ signals) zero s h = omega arith
listed-inside (t ∷ signals) (suc place) s h = let k : place < length signals = listed-inside signals place s h in omega arith

pub listed-later : (signals : List SigId) (place s : ℕ) (t : SigId) → place < length signals → t ≡ get_or signals place t → ¬ (t.0 ≡ s) → lists (numbers (drop place signals)) s ≡ true → lists (numbers (drop (place + 1) signals)) s ≡ true
listed-later [] place s t below at other h = absurd (omega arith)
listed-later (u ∷ signals) zero s t below at other h =
    let no : nat_eq u.0 s ≡ false = ap (λ (z : SigId). nat_eq z.0 s) (sym at) ∙ nat_eq-other t.0 s other in
    subst (λ (b : Bool). (b || lists (numbers signals) s) ≡ true) no h
listed-later (u ∷ signals) (suc place) s t below at other h = subst (λ (k : ℕ). lists (numbers (drop k (u ∷ signals))) s ≡ true) (let e : suc (place + 1) ≡ suc place + 1 = omega arith in e) (listed-later signals place s t (omega arith) at other h)

-- the value that the k-th variable has
pub value-at : (signals : List SigId) (S : SignalSet) (k : ℕ) (s : SigId) → slice_get signals k ≡ Some s → get_or (map (has S) (numbers signals)) k false ≡ has S s.0
value-at [] S k s at = cc
value-at (u ∷ signals) S zero s at = let same : u ≡ s = cc in ap (λ (z : SigId). has S z.0) same
value-at (u ∷ signals) S (suc k) s at = value-at signals S k s at

same_number : (s t : SigId) → s.0 ≡ t.0 → s ≡ t
same_number s t e = ap (λ (n : ℕ). record { 0 = n }) e

pub nat_eq-true : (a b : ℕ) → nat_eq a b ≡ true → a ≡ b
nat_eq-true a b h = elim (same_or_other a b) [
  | inl e ↦ e
  | inr n ↦ absurd (true≢false (sym h ∙ nat_eq-other a b n))
]
  where
    true≢false : true ≡ false → ⊥
    true≢false e = cc

-- where the loop stops, the signal stands
pub found-here : (signals : List SigId) (place : ℕ) (d s : SigId) → place < length signals → nat_eq (get_or signals place d).0 s.0 ≡ true → slice_get signals place ≡ Some s
found-here [] place d s below h = absurd (omega arith)
found-here (t ∷ signals) zero d s below h = ap Some (same_number t s (nat_eq-true t.0 s.0 h))
found-here (t ∷ signals) (suc place) d s below h = found-here signals place d s (omega arith) h

not-not : (b : Bool) → not b ≡ false → b ≡ true
not-not true h = refl
not-not false h = sym h

pub found : (signals : List SigId) (place : ℕ) (d s : SigId) → lists (numbers (drop place signals)) s.0 ≡ true → not (nat_eq (get_or signals place d).0 s.0) ≡ false → slice_get signals place ≡ Some s
found signals place d s listed same = found-here signals place d s (listed-inside signals place s.0 listed) (not-not (nat_eq (get_or signals place d).0 s.0) same)
