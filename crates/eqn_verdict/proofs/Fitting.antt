-- Fitting a layout is a test, and enough digits.
use Rattle.std.proofs.Common.{◌≡◌, ◌↔◌, ℕ, zero, suc, ◌+◌, ◌^◌, ◌<◌, ◌≤◌, List, [], ◌∷◌, Option, Some, None, true, false, ◌&&◌, not, cond, nat_lt, nat_le, refl, sym, ap, ◌∙◌, inl, inr, subst, arith, length, slice_get}
use Rattle.std.specs.Prelude.{slice_index_or, All}
use Rattle.std.proofs.Math.Pow.{pow_mono}
use Rattle.std.proofs.lemmas.Bool.Decides.{nat_tests}
use Rattle.std.proofs.lemmas.List.{length-map}
use Rattle.argos_base.proofs.Bools.{true_or_false, and_first, and_second, and_both, not_false, false_not, is_false}
use Rattle.argos_core.specs.Automata.{Parent}
use Rattle.argos_core.specs.Layouts.{RegisterShape, IsOn}
use Rattle.eqn_completion.specs.Binary.{FitsIn}
use Rattle.eqn_verdict.specs.Structural.{is_on, fit, FitsIsTest, powers_within, digit_count, widths_of, WidthsAreEnough}

lt-at : (k n : ℕ) → k < n → nat_lt k n ≡ true
lt-at k n h = grind (arith, nat_tests)

lt-tells : (k n : ℕ) → nat_lt k n ≡ true → k < n
lt-tells k n h = grind (arith, nat_tests)

le-at : (k n : ℕ) → k ≤ n → nat_le k n ≡ true
le-at k n h = grind (arith, nat_tests)

le-tells : (k n : ℕ) → nat_le k n ≡ true → k ≤ n
le-tells k n h = grind (arith, nat_tests)

le-not : (k n : ℕ) → nat_le k n ≡ false → n < k
le-not k n h = grind (arith, nat_tests)

on_is : (memory : List ℕ) (parent : Option Parent) → (is_on memory parent ≡ true) ↔ (IsOn memory parent)
on_is memory None = (λ t. tt, λ t. refl)
on_is memory (Some up) = (
  λ t. (lt-tells _ _ (and_first _ _ t), le-tells _ _ (and_first _ _ (and_second (nat_lt up.register (length memory)) _ t)), le-tells _ _ (and_second (nat_le up.first (slice_index_or memory up.register 0)) _ (and_second (nat_lt up.register (length memory)) _ t))),
  λ h. and_both _ _ (lt-at _ _ h.0) (and_both _ _ (le-at _ _ h.1) (le-at _ _ h.2)),
)

-- the facts on each register
record Fits (memory : List ℕ) (layout : List RegisterShape) (codes : List ℕ) : Type 0 where
  sized : length codes ≡ length layout
  within : (k : ℕ) (s : RegisterShape) → slice_get layout k ≡ Some s → slice_index_or codes k 0 ≤ s.top
  on : (k : ℕ) (s : RegisterShape) → slice_get layout k ≡ Some s → (0 < slice_index_or codes k 0) ↔ (IsOn memory s.parent)

none_some : {X : Type 0} (x : X) → None ≡ Some x → ⊥
none_some x e = cc

fit-tells : (memory : List ℕ) (layout : List RegisterShape) (codes : List ℕ) → fit memory layout codes ≡ true → Fits memory layout codes
fit-tells memory [] [] h = record { sized = refl; within = λ k s e. absurd (none_some s e); on = λ k s e. absurd (none_some s e) }
fit-tells memory [] (a ∷ codes) h = cc
fit-tells memory (s ∷ layout) [] h = cc
fit-tells memory (s ∷ layout) (a ∷ codes) h =
    let rest = fit-tells memory layout codes (and_second (nat_le a s.top && cond (nat_lt 0 a) (is_on memory s.parent) (not (is_on memory s.parent))) _ h) in
    let here : (nat_le a s.top && cond (nat_lt 0 a) (is_on memory s.parent) (not (is_on memory s.parent))) ≡ true = and_first _ _ h in
    record {
      sized = ap suc rest.sized;
      within = within (le-tells a s.top (and_first _ _ here)) rest;
      on = on (and_second (nat_le a s.top) _ here) rest;
    }
  where
    within : a ≤ s.top → Fits memory layout codes → (k : ℕ) (t : RegisterShape) → slice_get (s ∷ layout) k ≡ Some t → slice_index_or (a ∷ codes) k 0 ≤ t.top
    within h rest zero t e = let same : s ≡ t = cc in subst (λ (z : RegisterShape). a ≤ z.top) same h
    within h rest (suc k) t e = rest.within k t e

    above : cond (nat_lt 0 a) (is_on memory s.parent) (not (is_on memory s.parent)) ≡ true → (0 < a) ↔ (IsOn memory s.parent)
    above h = elim (true_or_false (nat_lt 0 a)) [
      | inl y ↦ let r : is_on memory s.parent ≡ true = rw y at h in (λ low. (on_is memory s.parent).0 r, λ is. lt-tells 0 a y)
      | inr n ↦ let r : not (is_on memory s.parent) ≡ true = rw n at h in
          (λ low. absurd (let z : true ≡ false = sym (lt-at 0 a low) ∙ n in cc), λ is. absurd (let z : true ≡ false = sym ((on_is memory s.parent).1 is) ∙ not_false (is_on memory s.parent) r in cc))
    ]

    on : cond (nat_lt 0 a) (is_on memory s.parent) (not (is_on memory s.parent)) ≡ true → Fits memory layout codes → (k : ℕ) (t : RegisterShape) → slice_get (s ∷ layout) k ≡ Some t → (0 < slice_index_or (a ∷ codes) k 0) ↔ (IsOn memory t.parent)
    on h rest zero t e = let same : s ≡ t = cc in subst (λ (z : RegisterShape). (0 < a) ↔ (IsOn memory z.parent)) same (above h)
    on h rest (suc k) t e = rest.on k t e

fit-at : (memory : List ℕ) (layout : List RegisterShape) (codes : List ℕ) → Fits memory layout codes → fit memory layout codes ≡ true
fit-at memory [] [] h = refl
fit-at memory [] (a ∷ codes) h = absurd (let s = h.sized in omega arith)
fit-at memory (s ∷ layout) [] h = absurd (let s = h.sized in omega arith)
fit-at memory (s ∷ layout) (a ∷ codes) h =
    and_both _ _
    (and_both _ _ (le-at a s.top (h.within 0 s refl)) (both (h.on 0 s refl)))
    (fit-at memory layout codes (record { sized = let z = h.sized in omega arith; within = λ k t e. h.within (suc k) t e; on = λ k t e. h.on (suc k) t e }))
  where
    both : ((0 < a) ↔ (IsOn memory s.parent)) → cond (nat_lt 0 a) (is_on memory s.parent) (not (is_on memory s.parent)) ≡ true
    both w = elim (true_or_false (nat_lt 0 a)) [
      | inl y ↦ rw y ((on_is memory s.parent).1 (w.0 (lt-tells 0 a y)))
      | inr n ↦ rw n (false_not (is_on memory s.parent) (is_false (is_on memory s.parent) (λ t. absurd (let z : true ≡ false = sym (lt-at 0 a (w.1 ((on_is memory s.parent).0 t))) ∙ n in cc))))
    ]

pub fits_is_test : FitsIsTest
fits_is_test layout memory = (
  λ t. let r = fit-tells memory layout memory t in record { sized = r.sized; within = r.within; on = r.on },
  λ h. fit-at memory layout memory (record { sized = h.sized; within = h.within; on = h.on }),
)

-- digits
all-within : (k n : ℕ) → 2 ^ k ≤ n → powers_within k n ≡ k
all-within zero n h = refl
all-within (suc k) n h =
    let less : 2 ^ k ≤ 2 ^ suc k = pow_mono (omega arith) in
    let low : 2 ^ k ≤ n = omega arith in
    rw (le-at (2 ^ k) n low) (let r = all-within k n low in omega arith)

powers-above : (k n : ℕ) → n < 2 ^ k → n < 2 ^ powers_within k n
powers-above zero n h = h
powers-above (suc k) n h = elim (true_or_false (nat_le (2 ^ k) n)) [
  | inl y ↦ rw (y, all-within k n (le-tells (2 ^ k) n y)) (subst (λ (z : ℕ). n < 2 ^ z) (let z : suc k ≡ 1 + k = omega arith in z) h)
  | inr x ↦ rw x (subst (λ (z : ℕ). n < 2 ^ z) (let z : powers_within k n ≡ 0 + powers_within k n = omega arith in z) (powers-above k n (le-not (2 ^ k) n x)))
]

powers-few : (k n : ℕ) → powers_within k n ≤ k
powers-few zero n = omega arith
powers-few (suc k) n = elim (true_or_false (nat_le (2 ^ k) n)) [ inl y ↦ rw y (let r = powers-few k n in omega arith) | inr x ↦ rw x (let r = powers-few k n in omega arith) ]

digits-enough : (n a : ℕ) → n ≤ 65535 → a ≤ n → a < 2 ^ digit_count n
digits-enough n a h l =
    let above : n < 2 ^ powers_within 16 n = powers-above 16 n (omega arith) in
    let more : 2 ^ powers_within 16 n ≤ 2 ^ digit_count n = pow_mono (omega arith) in
    omega arith

fits-in : (layout : List RegisterShape) (codes : List ℕ) → All (λ s. s.top ≤ 65535) layout → length codes ≡ length layout → ((k : ℕ) (s : RegisterShape) → slice_get layout k ≡ Some s → slice_index_or codes k 0 ≤ s.top) → FitsIn (widths_of layout) codes
fits-in [] [] tops e h = tt
fits-in [] (a ∷ codes) tops e h = absurd (omega arith)
fits-in (s ∷ layout) [] tops e h = absurd (omega arith)
fits-in (s ∷ layout) (a ∷ codes) tops e h = (digits-enough s.top a (tops 0 s (omega arith)) (h 0 s refl), fits-in layout codes (λ j d below. tops (suc j) d (omega arith)) (omega arith) (λ k t g. h (suc k) t g))

few-digits : (n : ℕ) → digit_count n ≤ 16
few-digits n = let r = powers-few 16 n in omega arith

all-few : (layout : List RegisterShape) (j d : ℕ) → j < length (widths_of layout) → slice_index_or (widths_of layout) j d ≤ 16
all-few [] j d below = absurd (omega arith)
all-few (s ∷ layout) zero d below = few-digits s.top
all-few (s ∷ layout) (suc j) d below = all-few layout j d (omega arith)

pub widths_are_enough : WidthsAreEnough
widths_are_enough layout tops = record {
  sized = length-map layout (λ (s : RegisterShape). digit_count s.top);
  few = λ j d below. all-few layout j d below;
  enough = λ m fit. fits-in layout m tops fit.sized fit.within;
}
