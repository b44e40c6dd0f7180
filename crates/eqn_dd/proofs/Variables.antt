-- Different variables are no more than there are.
use Rattle.std.proofs.Common.{◌≡◌, ℕ, suc, ◌<◌, ◌≤◌, List, [], ◌∷◌, true, nat_eq, length, All, sym, subst, inl, inr, arith}
use Rattle.std.specs.List.{list_any, IsDistinct}
use Rattle.std.proofs.lemmas.Bool.{or_cases}
use Rattle.std.proofs.lemmas.Bool.Decides.{nat_tests}
use Rattle.std.proofs.lemmas.Map.Steps.{length-le_from_distinct_below}
use Rattle.eqn_dd.specs.Placed.{Register, register_variables, NamesRegisters}

eq_tells : (a b : ℕ) → nat_eq a b ≡ true → a ≡ b
eq_tells a b h = grind (arith, nat_tests)

below_all : (v : ℕ) (xs : List ℕ) → All (λ k. k < v) xs → (q : ℕ) → list_any (nat_eq q) xs ≡ true → q < v
below_all v [] all q h = cc
below_all v (x ∷ xs) all q h = elim (or_cases (nat_eq q x) (list_any (nat_eq q) xs) h) [
  | inl same ↦ subst (λ (n : ℕ). n < v) (sym (eq_tells q x same)) (all 0 x (omega arith))
  | inr later ↦ below_all v xs (λ k d below. all (suc k) d (omega arith)) q later
]

pub different_few : (v : ℕ) (xs : List ℕ) → All (λ k. k < v) xs → IsDistinct nat_eq xs → length xs ≤ v
different_few v xs exist different = length-le_from_distinct_below xs v different (below_all v xs exist)

pub registers_few_variables : (v : ℕ) (regs : List Register) → NamesRegisters v regs → length (register_variables regs) ≤ v
registers_few_variables v regs names = different_few v (register_variables regs) names.exist names.different
