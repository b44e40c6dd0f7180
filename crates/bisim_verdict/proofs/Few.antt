-- The operations of a check for equivalence are fewer than those that its need counts.
use Rattle.std.proofs.Common.{◌≡◌, ℕ, ◌+◌, ◌*◌, ◌<◌, ◌≤◌, ap, ◌∙◌, arith}
use Rattle.std.specs.Prelude.{◌^◌}
use Rattle.std.proofs.Math.Nat.{pow-suc, pow-zero}
use Rattle.bisim_verdict.specs.Laws.{OperationsAreFew}

square : (s : ℕ) → s ^ 2 ≡ s * s
square s = pow-suc s 1 ∙ ap (λ (k : ℕ). k * s) (pow-suc s 0 ∙ ap (λ (k : ℕ). k * s) (pow-zero s) ∙ one s)
  where
    one : (k : ℕ) → 1 * k ≡ k
    one k = omega arith

at_least : (s : ℕ) → 512 * s + 4096 ≤ 16 * (s + 16) ^ 2
at_least s = omega (arith, square (s + 16))

few : (w v r o c : ℕ) → r ≤ v → (64 * w + 2 * v) + (128 * r + 2 * v) + 2 * (50 * c) + 3 * o + 16 < 4 * w * (v + 16) + 16 * (o + c + v + 16) ^ 2
few w v r o c h = omega (arith, at_least (o + c + v))

pub operations_are_few : OperationsAreFew
operations_are_few j h = few j.weight j.variables j.registers j.outputs j.formula h
