-- Lists of zeros.
use Rattle.std.proofs.Common.{◌≡◌, ℕ, zero, suc, ◌+◌, List, ◌∷◌, ◌++◌, ap, ◌∙◌, length, replicate, arith}
use Rattle.std.proofs.lemmas.List.{length-replicate}

pub length-zeros : (n : ℕ) → length (replicate {A = ℕ} n 0) ≡ n
length-zeros n = length-replicate n 0

pub replicate-add : (a b : ℕ) → replicate {A = ℕ} (a + b) 0 ≡ replicate a 0 ++ replicate b 0
replicate-add zero b = let e : 0 + b ≡ b = omega arith in ap (λ (k : ℕ). replicate {A = ℕ} k 0) e
replicate-add (suc a) b = let e : suc a + b ≡ suc (a + b) = omega arith in ap (λ (k : ℕ). replicate {A = ℕ} k 0) e ∙ ap (λ (l : List ℕ). 0 ∷ l) (replicate-add a b)
