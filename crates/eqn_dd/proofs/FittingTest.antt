-- Fitting a layout is a test.
use Rattle.std.proofs.Common.{◌≡◌, ◌↔◌, ℕ, zero, suc, ◌<◌, ◌≤◌, List, [], ◌∷◌, Option, Some, None, true, false, ◌&&◌, not, cond, nat_lt, nat_le, refl, sym, ap, ◌∙◌, inl, inr, subst, arith, length, slice_get}
use Rattle.std.specs.Prelude.{slice_index_or}
use Rattle.std.proofs.lemmas.Bool.Decides.{nat_tests}
use Rattle.argos_base.proofs.Bools.{true_or_false, and_first, and_second, and_both, not_false, false_not, is_false}
use Rattle.argos_core.specs.Automata.{Parent}
use Rattle.argos_core.specs.Layouts.{RegisterShape, IsOn, FitsLayout}
use Rattle.eqn_dd.specs.inner.Fitting.{is_on, fits_shapes}

lt-at : (k n : ℕ) → k < n → nat_lt k n ≡ true
lt-at k n h = grind (arith, nat_tests)

lt-tells : (k n : ℕ) → nat_lt k n ≡ true → k < n
lt-tells k n h = grind (arith, nat_tests)

le-at : (k n : ℕ) → k ≤ n → nat_le k n ≡ true
le-at k n h = grind (arith, nat_tests)

le-tells : (k n : ℕ) → nat_le k n ≡ true → k ≤ n
le-tells k n h = grind (arith, nat_tests)

le-not : (k n : ℕ) → nat_le k n ≡ false → n < k
le-not k n h = grind (arith, nat_tests)

on_is : (memory : List ℕ) (parent : Option Parent) → (is_on memory parent ≡ true) ↔ (IsOn memory parent)
on_is memory None = (λ t. tt, λ t. refl)
on_is memory (Some up) = (
  λ t. (lt-tells _ _ (and_first _ _ t), le-tells _ _ (and_first _ _ (and_second (nat_lt up.register (length memory)) _ t)), le-tells _ _ (and_second (nat_le up.first (slice_index_or memory up.register 0)) _ (and_second (nat_lt up.register (length memory)) _ t))),
  λ h. and_both _ _ (lt-at _ _ h.0) (and_both _ _ (le-at _ _ h.1) (le-at _ _ h.2)),
)

-- the facts on each register
record Fits (memory : List ℕ) (layout : List RegisterShape) (codes : List ℕ) : Type 0 where
  sized : length codes ≡ length layout
  within : (k : ℕ) (s : RegisterShape) → slice_get layout k ≡ Some s → slice_index_or codes k 0 ≤ s.top
  on : (k : ℕ) (s : RegisterShape) → slice_get layout k ≡ Some s → (0 < slice_index_or codes k 0) ↔ (IsOn memory s.parent)

none_some : {X : Type 0} (x : X) → None ≡ Some x → ⊥
none_some x e = cc

fits-tells : (memory : List ℕ) (layout : List RegisterShape) (codes : List ℕ) → fits_shapes memory layout codes ≡ true → Fits memory layout codes
fits-tells memory [] [] h = record { sized = refl; within = λ k s e. absurd (none_some s e); on = λ k s e. absurd (none_some s e) }
fits-tells memory [] (a ∷ codes) h = cc
fits-tells memory (s ∷ layout) [] h = cc
fits-tells memory (s ∷ layout) (a ∷ codes) h =
    let rest = fits-tells memory layout codes (and_second (nat_le a s.top && cond (nat_lt 0 a) (is_on memory s.parent) (not (is_on memory s.parent))) _ h) in
    let here : (nat_le a s.top && cond (nat_lt 0 a) (is_on memory s.parent) (not (is_on memory s.parent))) ≡ true = and_first _ _ h in
    record {
      sized = ap suc rest.sized;
      within = within (le-tells a s.top (and_first _ _ here)) rest;
      on = on (and_second (nat_le a s.top) _ here) rest;
    }
  where
    within : a ≤ s.top → Fits memory layout codes → (k : ℕ) (t : RegisterShape) → slice_get (s ∷ layout) k ≡ Some t → slice_index_or (a ∷ codes) k 0 ≤ t.top
    within h rest zero t e = let same : s ≡ t = cc in subst (λ (z : RegisterShape). a ≤ z.top) same h
    within h rest (suc k) t e = rest.within k t e

    above : cond (nat_lt 0 a) (is_on memory s.parent) (not (is_on memory s.parent)) ≡ true → (0 < a) ↔ (IsOn memory s.parent)
    above h = elim (true_or_false (nat_lt 0 a)) [
      | inl y ↦ let r : is_on memory s.parent ≡ true = rw y at h in (λ low. (on_is memory s.parent).0 r, λ is. lt-tells 0 a y)
      | inr n ↦ let r : not (is_on memory s.parent) ≡ true = rw n at h in
          (λ low. absurd (let z : true ≡ false = sym (lt-at 0 a low) ∙ n in cc), λ is. absurd (let z : true ≡ false = sym ((on_is memory s.parent).1 is) ∙ not_false (is_on memory s.parent) r in cc))
    ]

    on : cond (nat_lt 0 a) (is_on memory s.parent) (not (is_on memory s.parent)) ≡ true → Fits memory layout codes → (k : ℕ) (t : RegisterShape) → slice_get (s ∷ layout) k ≡ Some t → (0 < slice_index_or (a ∷ codes) k 0) ↔ (IsOn memory t.parent)
    on h rest zero t e = let same : s ≡ t = cc in subst (λ (z : RegisterShape). (0 < a) ↔ (IsOn memory z.parent)) same (above h)
    on h rest (suc k) t e = rest.on k t e

fits-at : (memory : List ℕ) (layout : List RegisterShape) (codes : List ℕ) → Fits memory layout codes → fits_shapes memory layout codes ≡ true
fits-at memory [] [] h = refl
fits-at memory [] (a ∷ codes) h = absurd (let s = h.sized in omega arith)
fits-at memory (s ∷ layout) [] h = absurd (let s = h.sized in omega arith)
fits-at memory (s ∷ layout) (a ∷ codes) h =
    and_both _ _
    (and_both _ _ (le-at a s.top (h.within 0 s refl)) (both (h.on 0 s refl)))
    (fits-at memory layout codes (record { sized = let z = h.sized in omega arith; within = λ k t e. h.within (suc k) t e; on = λ k t e. h.on (suc k) t e }))
  where
    both : ((0 < a) ↔ (IsOn memory s.parent)) → cond (nat_lt 0 a) (is_on memory s.parent) (not (is_on memory s.parent)) ≡ true
    both w = elim (true_or_false (nat_lt 0 a)) [
      | inl y ↦ rw y ((on_is memory s.parent).1 (w.0 (lt-tells 0 a y)))
      | inr n ↦ rw n (false_not (is_on memory s.parent) (is_false (is_on memory s.parent) (λ t. absurd (let z : true ≡ false = sym (lt-at 0 a (w.1 ((on_is memory s.parent).0 t))) ∙ n in cc))))
    ]

pub fits_is_test : (layout : List RegisterShape) (memory : List ℕ) → (fits_shapes memory layout memory ≡ true) ↔ (FitsLayout layout memory)
fits_is_test layout memory = (
  λ t. let r = fits-tells memory layout memory t in record { sized = r.sized; within = r.within; on = r.on },
  λ h. fits-at memory layout memory (record { sized = h.sized; within = h.within; on = h.on }),
)
