-- The digits of a code are those that division gives.
use Rattle.std.proofs.Common.{◌≡◌, ℕ, zero, suc, ◌+◌, ◌-◌, ◌*◌, ◌^◌, ◌<◌, ◌≤◌, List, ◌∷◌, Bool, true, false, nat_eq, nat_le, ap, ◌∙◌, inl, inr, arith}
use Rattle.std.specs.Prelude.{◌/◌, ◌%◌}
use Rattle.std.proofs.Math.Nat.{pow-suc}
use Rattle.std.proofs.lemmas.Bool.Decides.{nat_tests}
use Rattle.std.proofs.lemmas.Nat.{div-mul-add, mod-mul-add}
use Rattle.argos_base.specs.SignalSets.{has}
use Rattle.argos_base.proofs.Bools.{true_or_false}
use Rattle.eqn_completion.specs.Binary.{code_bits}
use Rattle.eqn_completion.specs.Laws.{DigitsByDivision}

double : (w : ℕ) → 2 ^ suc w ≡ 2 ^ w + 2 ^ w
double w = omega (arith, pow-suc 2 w)

-- the digit behind which r has w more
pub digit-is : (q e w a r : ℕ) → e < 2 → r < 2 ^ w → a ≡ (q * 2 + e) * 2 ^ w + r → nat_eq (a / 2 ^ w % 2) 1 ≡ nat_eq e 1
digit-is q e w a r le lr h =
    let d : a / 2 ^ w ≡ q * 2 + e = ap (λ (n : ℕ). n / 2 ^ w) h ∙ div-mul-add (q * 2 + e) (2 ^ w) r lr in
    ap (λ (n : ℕ). nat_eq (n % 2) 1) d ∙ ap (λ (n : ℕ). nat_eq n 1) (mod-mul-add q 2 e le)

-- where the next digit is 0, and where it is 1
pub next-off : (q w r : ℕ) → q * 2 ^ suc w + r ≡ (q * 2 + 0) * 2 ^ w + r
next-off q w r = ap (λ (n : ℕ). q * n + r) (double w) ∙ omega arith

pub next-on : (q w r : ℕ) → 2 ^ w ≤ r → q * 2 ^ suc w + r ≡ (q * 2 + 1) * 2 ^ w + (r - 2 ^ w)
next-on q w r h = ap (λ (n : ℕ). q * n + r) (double w) ∙ omega arith

le_tells : (a b : ℕ) → nat_le a b ≡ true → a ≤ b
le_tells a b h = grind (arith, nat_tests)

le_not : (a b : ℕ) → nat_le a b ≡ false → b < a
le_not a b h = grind (arith, nat_tests)

-- a is some multiple of 2 ^ w, and r
digits-are : (w v q a r : ℕ) → r < 2 ^ w → a ≡ q * 2 ^ w + r → v < w → has (code_bits w r) v ≡ nat_eq (a / 2 ^ (w - suc v) % 2) 1
digits-are zero v q a r h e l = absurd (omega arith)
digits-are (suc w) v q a r h e l = elim (true_or_false (nat_le (2 ^ w) r)) [
  | inl y ↦ rw y (let lo = le_tells (2 ^ w) r y in let d = double w in
      at true (code_bits w (r - 2 ^ w)) v l (digit-is q 1 w a (r - 2 ^ w) (omega arith) (omega arith) (e ∙ next-on q w r lo))
      (λ u below. digits-are w u (q * 2 + 1) a (r - 2 ^ w) (omega arith) (e ∙ next-on q w r lo) below))
  | inr n ↦ rw n (let hi = le_not (2 ^ w) r n in
      at false (code_bits w r) v l (digit-is q 0 w a r (omega arith) hi (e ∙ next-off q w r))
      (λ u below. digits-are w u (q * 2 + 0) a r hi (e ∙ next-off q w r) below))
]
  where
    at : (x : Bool) (xs : List Bool) (v : ℕ) → v < suc w → nat_eq (a / 2 ^ w % 2) 1 ≡ x → ((u : ℕ) → u < w → has xs u ≡ nat_eq (a / 2 ^ (w - suc u) % 2) 1) → has (x ∷ xs) v ≡ nat_eq (a / 2 ^ (suc w - suc v) % 2) 1
    at x xs zero l first rest = let f : suc w - 1 ≡ w = omega arith in rw f (let g : x ≡ nat_eq (a / 2 ^ w % 2) 1 = cc in g)
    at x xs (suc u) l first rest = let f : suc w - suc (suc u) ≡ w - suc u = omega arith in rw f (rest u (omega arith))

pub digits_by_division : DigitsByDivision
digits_by_division w a v h l = digits-are w v 0 a a h (omega arith) l
