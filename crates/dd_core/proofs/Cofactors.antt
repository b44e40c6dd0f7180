-- Cofactors of cofactors, and those that the children of a node denote. Source: Bryant 1986.
use Rattle.std.proofs.Common.{◌≡◌, ℕ, ◌+◌, ◌<◌, ◌≤◌, List, [], ◌∷◌, ◌++◌, Bool, true, false, length, drop, replicate, append_assoc, length-append, length-drop, refl, sym, ap, ◌∙◌, inl, inr, arith}
use Rattle.std.proofs.lemmas.Bool.{cases_lt}
use Rattle.std.proofs.lemmas.List.{length-replicate, drop-append-le}
use Rattle.std.proofs.lemmas.Slice.{drop-append-drop}
use Rattle.std.proofs.Math.Seq.{drop-append_seam}
use Rattle.dd_core.specs.Functions.{Function, IsCofactor}
use Rattle.dd_core.specs.Diagrams.{Nodes, walk, denotes, level, IsReduced, is_held}
use Rattle.dd_core.proofs.Walks.{child, child-later, tests_from_level, denotes-skip}

drop-all : (xs : List Bool) → drop (length xs) xs ≡ []
drop-all [] = refl
drop-all (x ∷ xs) = drop-all xs

-- a cofactor of a cofactor is one
pub IsCofactor-trans : (v : ℕ) (f g h : Function) → IsCofactor v f g → IsCofactor v g h → IsCofactor v f h
IsCofactor-trans v f g h first second =
    let p = first.fixed in let q = second.fixed in let i = length p in let j = length q in
    elim (cases_lt i j) [
      | inl longer ↦
          let both = p ++ drop i q in
          let sized_both : length both ≡ j = length-append p (drop i q) ∙ omega (arith, length-drop i q) in
          record {
            fixed = both;
            bound = omega (arith, second.bound, sized_both);
            equal = λ x sized.
                second.equal x sized
                ∙ first.equal (q ++ drop j x) (front v q x second.bound sized)
                ∙ ap (λ ys. f (p ++ ys)) (drop-append-le i q (drop j x) (omega arith))
                ∙ ap f (sym (append_assoc p (drop i q) (drop j x)))
                ∙ ap (λ n. f (both ++ drop n x)) (sym sized_both);
          }
      | inr shorter ↦ record {
        fixed = p;
        bound = first.bound;
        equal = λ x sized.
            second.equal x sized
            ∙ first.equal (q ++ drop j x) (front v q x second.bound sized)
            ∙ ap (λ ys. f (p ++ ys)) (drop-append-drop j x q i shorter refl);
      }
    ]
  where
    front : (v : ℕ) (fixed x : List Bool) → length fixed ≤ v → length x ≡ v → length (fixed ++ drop (length fixed) x) ≡ v
    front v fixed x bound sized = omega (arith, length-append fixed (drop (length fixed) x), length-drop (length fixed) x)

-- a front whose last value is that of variable k
abbrev pub front_to : ℕ → Bool → List Bool
front_to k b = replicate k false ++ b ∷ []

pub length-front_to : (k : ℕ) (b : Bool) → length (front_to k b) ≡ k + 1
length-front_to k b = omega (arith, length-append (replicate k false) (b ∷ []), length-replicate k false)

drop-front_to : (k : ℕ) (b : Bool) (ys : List Bool) → drop k (front_to k b ++ ys) ≡ b ∷ ys
drop-front_to k b ys =
    ap (drop k) (append_assoc (replicate k false) (b ∷ []) ys)
    ∙ ap (λ n. drop n (replicate k false ++ b ∷ ys)) (sym (length-replicate k false))
    ∙ drop-append_seam (replicate k false) (b ∷ ys)

-- f with variable k set, where f tests no variable before k, is the function of its child
pub denotes-front_to : (v : ℕ) (nodes : Nodes) → IsReduced v nodes → (k : ℕ) (b : Bool) (f : ℕ) → is_held nodes f ≡ true → k ≤ level v nodes f → k < v
    → (x : List Bool) → denotes nodes (child nodes k b f) x ≡ denotes nodes f (front_to k b ++ drop (k + 1) x)
denotes-front_to v nodes r k b f h low below x =
    let later = child-later v nodes r k b f h low below in
    denotes-skip nodes (k + 1) (child nodes k b f) x (tests_from_level v nodes (k + 1) (child nodes k b f) (omega (arith, later)))
    ∙ sym (denotes-skip nodes k f (front_to k b ++ drop (k + 1) x) (tests_from_level v nodes k f low) ∙ ap (walk nodes k f) (drop-front_to k b (drop (k + 1) x)))

-- so it is a cofactor, also under a function g of several nodes' values
pub IsCofactor-front_to : (v k : ℕ) (b : Bool) (g h : Function) → k < v → ((x : List Bool) → length x ≡ v → h x ≡ g (front_to k b ++ drop (k + 1) x)) → IsCofactor v g h
IsCofactor-front_to v k b g h below equal = record {
  fixed = front_to k b;
  bound = omega (arith, length-front_to k b);
  equal = λ x sized. equal x sized ∙ ap (λ n. g (front_to k b ++ drop n x)) (sym (length-front_to k b));
}
