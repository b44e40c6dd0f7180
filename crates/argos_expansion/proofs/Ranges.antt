-- Numbers from one on.
use Rattle.std.proofs.Common.{◌≡◌, ℕ, ◌+◌, List, [], ◌∷◌, ◌++◌, refl, suc, zero, ap, ◌∙◌, arith}
use Rattle.std.specs.List.{range_with_len}
use Rattle.std.proofs.lemmas.Grind.{common_steps}
use Rattle.argos_expansion.specs.inner.Renaming.{signal_at}
use Rattle.argos_expansion.specs.inner.ShapeGrowth.{fitted}

pub range_more : (a n : ℕ) → range_with_len a (n + 1) ≡ range_with_len a n ++ (a + n) ∷ []
range_more a zero = let e : a ≡ a + 0 = omega arith in ap (λ k. k ∷ []) e
range_more a (suc n) =
    let e : suc n + 1 ≡ suc (n + 1) = omega arith in
    let s : a + 1 + n ≡ a + suc n = omega arith in
    rw e (ap (λ xs. a ∷ xs) (range_more (a + 1) n ∙ ap (λ k. range_with_len (a + 1) n ++ k ∷ []) s))

-- one signal more
pub fitted_more : (k : ℕ) (ns : List ℕ) → fitted (k + 1) ns ≡ fitted k ns ++ signal_at ns k ∷ []
fitted_more zero [] = refl
fitted_more zero (n ∷ ns) = refl
fitted_more (suc k) [] = let e : suc k + 1 ≡ suc (k + 1) = omega arith in rw e (ap (λ xs. 0 ∷ xs) (fitted_more k []))
fitted_more (suc k) (n ∷ ns) = let e : suc k + 1 ≡ suc (k + 1) = omega arith in rw e (ap (λ xs. n ∷ xs) (fitted_more k ns))

pub ruleset ranges = (common_steps, range_more, fitted_more)
