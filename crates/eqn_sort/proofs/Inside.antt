-- Numbers of an orderable system exist, and are small.
use Rattle.std.proofs.Common.{◌≡◌, ℕ, zero, suc, ◌<◌, ◌^◌, List, [], ◌∷◌, true, ◌&&◌, nat_eq, nat_lt, nat_le, length, get_or, arith, inl, inr}
use Rattle.std.specs.Prelude.{All}
use Rattle.std.proofs.lemmas.Bool.Decides.{nat_tests}
use Rattle.argos_base.specs.SignalSets.{lists}
use Rattle.argos_base.proofs.Bools.{or_cases, or_left, or_right, and_first, and_second}
use Rattle.eqn_core.specs.Equations.{Equations, bit_count, word_count}
use Rattle.eqn_core.specs.Orderable.{IsOrderable}
use Rattle.eqn_core.specs.Ordered.{all_below, all_between}
use Rattle.eqn_core.specs.Plans.{IsPlanOf}
use Rattle.eqn_core.proofs.PlanLemmas.{cyclic_are}
use Rattle.eqn_core.proofs.Walks.{bit_and_word_lines}
use Rattle.eqn_completion.proofs.Moved.{ranged}

equal : (a b : ℕ) → nat_eq a b ≡ true → a ≡ b
equal a b h = grind (arith, nat_tests)

below : (a b : ℕ) → nat_lt a b ≡ true → a < b
below a b h = grind (arith, nat_tests)

-- what stands at a place is listed
pub lists-get : (xs : List ℕ) (k d : ℕ) → k < length xs → lists xs (get_or xs k d) ≡ true
lists-get [] k d h = absurd (omega arith)
lists-get (x ∷ xs) zero d h = or_left (nat_eq x x) _ (same x)
  where
    same : (x : ℕ) → nat_eq x x ≡ true
    same x = grind (arith, nat_tests)
lists-get (x ∷ xs) (suc k) d h = or_right (nat_eq x (get_or xs k d)) _ (lists-get xs k d (omega arith))

listed-below : (n : ℕ) (xs : List ℕ) (k : ℕ) → all_below n xs ≡ true → lists xs k ≡ true → k < n
listed-below n [] k h l = cc
listed-below n (x ∷ xs) k h l = elim (or_cases (nat_eq x k) _ l) [
  | inl e ↦ let s = equal x k e in let b = below x n (and_first _ _ h) in omega arith
  | inr r ↦ listed-below n xs k (and_second (nat_lt x n) _ h) r
]

pub All-below : (n : ℕ) (xs : List ℕ) → all_below n xs ≡ true → All (λ k. k < n) xs
All-below n xs h = λ k d low. listed-below n xs (get_or xs k d) h (lists-get xs k d low)

pub All-between : (lo n : ℕ) (xs : List ℕ) → all_between lo n xs ≡ true → All (λ k. k < n) xs
All-between lo n [] h = λ k d low. absurd (omega arith)
All-between lo n (x ∷ xs) h = one (All-between lo n xs (and_second (nat_le lo x && nat_lt x n) _ h))
  where
    one : All (λ k. k < n) xs → All (λ k. k < n) (x ∷ xs)
    one rest zero d low = below x n (and_second (nat_le lo x) _ (and_first _ _ h))
    one rest (suc k) d low = rest k d (omega arith)

-- cyclic bits exist, and so do the places of a plan
pub cyclic-inside : (E : Equations) (order cyclic : List ℕ) → IsOrderable E → IsPlanOf E order cyclic → All (λ k. k < bit_count E) cyclic
cyclic-inside E order cyclic o plan = λ k d low. listed-below (bit_count E) E.locals (get_or cyclic k d) o.locals_exist (cyclic_are E cyclic plan.cyclic_bits (get_or cyclic k d) (lists-get cyclic k d low)).0

pub place-inside : (E : Equations) (order cyclic : List ℕ) → IsPlanOf E order cyclic → (k d : ℕ) → k < length order → get_or order k d < length E.lines
place-inside E order cyclic plan k d low = ranged E order cyclic plan (get_or order k d) (lists-get order k d low)

-- an orderable system has fewer bits and words than numbers have
pub few-bits : (E : Equations) → IsOrderable E → bit_count E < 2 ^ 32
few-bits E o = omega (arith, o.input_limit, o.line_limit, bit_and_word_lines E.lines)

pub few-words : (E : Equations) → IsOrderable E → word_count E < 2 ^ 32
few-words E o = omega (arith, o.register_limit, o.line_limit, bit_and_word_lines E.lines)
