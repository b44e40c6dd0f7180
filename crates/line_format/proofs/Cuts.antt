-- Cutting bytes at the first of a kind.
use Rattle.std.proofs.Common.{◌≡◌, ℕ, suc, ◌+◌, ◌-◌, ◌<◌, List, [], ◌∷◌, ◌++◌, Bool, true, false, not, cond, Option, Some, None, IsTrue, length, take, drop, nat_eq, refl, sym, ap, ◌∙◌, subst, arith}
use Rattle.std.specs.Prelude.{position}
use Rattle.std.specs.List.{position_from}
use Rattle.std.proofs.lemmas.Bool.Decides.{nat_tests}
use Rattle.std.proofs.lemmas.Grind.{common_steps}
use Rattle.std.proofs.lemmas.List.{take_all, length-drop}
use Rattle.std.proofs.lemmas.Iterator.Adapters.{position_from-zero}
use Rattle.argos_base.proofs.Bools.{and_both}
use Rattle.line_format.specs.Lines.{lacks, IsCut}

-- the byte stands at place j, and nowhere before
record Found (at : ℕ) (bs : List ℕ) (i k : ℕ) : Type 0 where
  place : ℕ
  is : k ≡ i + place
  within : place < length bs
  cut : IsCut at bs (take place bs) (drop (suc place) bs)

here : (at b i k : ℕ) (bs : List ℕ) → nat_eq b at ≡ true → i ≡ k → Found at (b ∷ bs) i k
here at b i k bs h e = record { place = 0; is = omega arith; within = omega arith; cut = record { before = refl; text = ap (λ z. z ∷ bs) (same b at h) } }
  where
    same : (b k : ℕ) → nat_eq b k ≡ true → b ≡ k
    same b k h = grind (arith, nat_tests)

further : (at b i k : ℕ) (bs : List ℕ) → nat_eq b at ≡ false → Found at bs (i + 1) k → Found at (b ∷ bs) i k
further at b i k bs h f = record {
  place = suc f.place;
  is = omega (arith, f.is);
  within = omega (arith, f.within);
  cut = record { before = and_both _ _ (ap not h) f.cut.before; text = ap (λ z. b ∷ z) f.cut.text };
}

some_same : (i k : ℕ) → ◌≡◌ {A = Option ℕ} (Some i) (Some k) → i ≡ k
some_same i k p = cc p

found_by : (at b i k : ℕ) (bs : List ℕ) (t : Bool) → nat_eq b at ≡ t → cond t (Some i) (position_from (λ b. nat_eq b at) (i + 1) bs) ≡ Some k → (position_from (λ b. nat_eq b at) (i + 1) bs ≡ Some k → Found at bs (i + 1) k) → Found at (b ∷ bs) i k
found_by at b i k bs true e p more = here at b i k bs e (some_same i k p)
found_by at b i k bs false e p more = further at b i k bs e (more p)

found_from : (at i k : ℕ) (bs : List ℕ) → position_from (λ b. nat_eq b at) i bs ≡ Some k → Found at bs i k
found_from at i k [] h = cc h
found_from at i k (b ∷ bs) h = found_by at b i k bs (nat_eq b at) refl h (found_from at (i + 1) k bs)

absent_by : (at b i : ℕ) (bs : List ℕ) (t : Bool) → nat_eq b at ≡ t → ◌≡◌ {A = Option ℕ} (cond t (Some i) (position_from (λ b. nat_eq b at) (i + 1) bs)) None → (position_from (λ b. nat_eq b at) (i + 1) bs ≡ None → IsTrue (lacks at bs)) → IsTrue (lacks at (b ∷ bs))
absent_by at b i bs true e p more = cc p
absent_by at b i bs false e p more = and_both _ _ (ap not e) (more p)

absent_from : (at i : ℕ) (bs : List ℕ) → position_from (λ b. nat_eq b at) i bs ≡ None → IsTrue (lacks at bs)
absent_from at i [] h = refl
absent_from at i (b ∷ bs) h = absent_by at b i bs (nat_eq b at) refl h (absent_from at (i + 1) bs)

found : (at k : ℕ) (bs : List ℕ) → position (λ b. nat_eq b at) bs ≡ Some k → Found at bs 0 k
found at k bs h = found_from at 0 k bs (sym (position_from-zero (λ b. nat_eq b at) bs) ∙ h)

pub cut-within : (at k : ℕ) (bs : List ℕ) → position (λ b. nat_eq b at) bs ≡ Some k → k < length bs
cut-within at k bs h = let f = found at k bs h in omega (arith, f.is, f.within)

cut-found : (at k : ℕ) (bs : List ℕ) → position (λ b. nat_eq b at) bs ≡ Some k → IsCut at bs (take k bs) (drop (k + 1) bs)
cut-found at k bs h =
    let f = found at k bs h in
    let e : f.place ≡ k = omega (arith, f.is) in
    let next : suc f.place ≡ k + 1 = omega arith in
    record {
      before = ap (λ j. lacks at (take j bs)) (sym e) ∙ f.cut.before;
      text = f.cut.text ∙ ap (λ j. take j bs ++ at ∷ drop (suc f.place) bs) e ∙ ap (λ j. take k bs ++ at ∷ drop j bs) next;
    }

-- as slices give them
pub cut-slices : (at k : ℕ) (bs : List ℕ) → position (λ b. nat_eq b at) bs ≡ Some k → IsCut at bs (take k bs) (take (length bs - (k + 1)) (drop (k + 1) bs))
cut-slices at k bs h = subst (λ z. IsCut at bs (take k bs) z) (sym (take_all (length bs - (k + 1)) (drop (k + 1) bs) (omega (arith, length-drop (k + 1) bs)))) (cut-found at k bs h)

pub cut-absent : (at : ℕ) (bs : List ℕ) → position (λ b. nat_eq b at) bs ≡ None → IsTrue (lacks at bs)
cut-absent at bs h = absent_from at 0 bs (sym (position_from-zero (λ b. nat_eq b at) bs) ∙ h)

pub ruleset cuts = (common_steps, cut-within, cut-absent)
