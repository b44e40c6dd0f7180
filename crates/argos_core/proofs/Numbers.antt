-- Tests of two numbers.
use Rattle.std.proofs.Common.{◌≡◌, ℕ, true, false, nat_eq, ◌⊎◌, arith}
use Rattle.std.proofs.lemmas.Bool.Decides.{nat_tests}

pub same_or_other : (a b : ℕ) → (a ≡ b) ⊎ ¬ (a ≡ b)
same_or_other a b = grind arith

pub nat_eq-at : (a b : ℕ) → a ≡ b → nat_eq a b ≡ true
nat_eq-at a b same = grind (arith, nat_tests)

pub nat_eq-other : (a b : ℕ) → ¬ (a ≡ b) → nat_eq a b ≡ false
nat_eq-other a b other = grind (arith, nat_tests)

pub nat_eq-same : (k : ℕ) → nat_eq k k ≡ true
nat_eq-same k = grind (arith, nat_tests)
