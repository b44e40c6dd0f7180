-- The operations of both jobs are fewer than counted.
use Rattle.std.proofs.Common.{◌≡◌, ℕ, ◌+◌, ◌-◌, ◌*◌, ◌^◌, ◌<◌, ◌≤◌, sym, ap, ◌∙◌, inl, inr, subst, arith}
use Rattle.std.proofs.Math.Nat.{pow-suc, pow-zero, mul-le-mul, mul-le-mul_right}
use Rattle.std.proofs.lemmas.Bool.{cases_lt}
use Rattle.eqn_verdict.specs.Needs.{variables, instant_operations, solve_operations, CountedAreEnough, AcceptanceCountsMore}

square : (n : ℕ) → n ^ 2 ≡ n * n
square n = pow-suc n 1 ∙ ap (λ (k : ℕ). k * n) (pow-suc n 0 ∙ ap (λ (k : ℕ). k * n) (pow-zero n) ∙ (let z : 1 * n ≡ n = omega arith in z))

-- twice a product is at most the sum of the squares
products : (s t : ℕ) → 2 * (s * t) ≤ s * s + t * t
products s t = elim (cases_lt s t) [
  | inl less ↦ let p : (t - s) * (t - s) + 2 * (s * t) ≡ s * s + t * t = by_less s t (t - s) (omega arith) in omega arith
  | inr more ↦ let p : (s - t) * (s - t) + 2 * (t * s) ≡ t * t + s * s = by_less t s (s - t) (omega arith) in omega arith
]
  where
    by_less : (a b d : ℕ) → b ≡ a + d → d * d + 2 * (a * b) ≡ a * a + b * b
    by_less a b d e = subst (λ (k : ℕ). d * d + 2 * (a * k) ≡ a * a + k * k) (sym e) (omega arith)

instant : (W R O a c : ℕ) → R ≤ a → ((64 * W + (a + c)) + (128 * R + (a + c))) + 4 * c + ((c * (c + 1) + 1) + (O + 16 * R) * (5 + 3 * c) + 2) + (3 * a + c) + 3 * (O + 16 * R) + (2 * (O + 16 * R) + 2) + 3 * (O + 16 * R) < 4 * W * ((a + c) + 16) + 16 * ((O + (a + c) + 16) * (O + (a + c) + 16))
instant W R O a c h =
    let p : R * c ≤ a * c = mul-le-mul_right c h in
    let q : 2 * (a * c) ≤ a * a + c * c = products a c in
    omega arith

solving : (W R O a c : ℕ) → R ≤ a → ((64 * W + (a + c)) + (128 * R + (a + c))) + 4 * c + c + c * (5 + c) < 4 * W * ((a + c) + 16) + 16 * ((O + (a + c) + 16) * (O + (a + c) + 16))
solving W R O a c h = omega arith

pub counted_are_enough : CountedAreEnough
counted_are_enough j h =
    let e = square (j.outputs + variables j + 16) in (
      subst (λ (n : ℕ). instant_operations j < 4 * j.weight * (variables j + 16) + 16 * n) (sym e) (instant j.weight j.registers j.outputs j.points j.cyclic h),
      subst (λ (n : ℕ). solve_operations j < 4 * j.weight * (variables j + 16) + 16 * n) (sym e) (solving j.weight j.registers j.outputs j.points j.cyclic h),
    )

larger : (w o s v : ℕ) → w ≤ 32 * s → o ≤ s → 4 * w * (v + 16) + 16 * ((o + v + 16) * (o + v + 16)) ≤ 64 * ((s + v + 16) * (s + v + 16))
larger w o s v h k =
    let p : w * (v + 16) ≤ 32 * s * (v + 16) = mul-le-mul_right (v + 16) h in
    let q : (o + v + 16) * (o + v + 16) ≤ (s + v + 16) * (s + v + 16) = mul-le-mul (omega arith) (omega arith) in
    let r : 2 * (s * (v + 16)) ≤ s * s + (v + 16) * (v + 16) = products s (v + 16) in
    omega arith

pub acceptance_counts_more : AcceptanceCountsMore
acceptance_counts_more j size h k =
    subst (λ (n : ℕ). 4 * j.weight * (variables j + 16) + 16 * n ≤ 64 * (size + variables j + 16) ^ 2) (sym (square (j.outputs + variables j + 16)))
    (subst (λ (n : ℕ). 4 * j.weight * (variables j + 16) + 16 * ((j.outputs + variables j + 16) * (j.outputs + variables j + 16)) ≤ 64 * n) (sym (square (size + variables j + 16))) (larger j.weight j.outputs size (variables j) h k))
