-- The digit lines have the digits of the registers.
use Rattle.std.proofs.Common.{◌≡◌, ℕ, zero, suc, ◌+◌, ◌-◌, ◌*◌, ◌^◌, ◌<◌, ◌≤◌, List, [], ◌∷◌, Bool, true, false, nat_eq, nat_le, refl, sym, ap, ◌∙◌, inl, inr, arith, length}
use Rattle.std.specs.Prelude.{◌/◌, ◌%◌, slice_index_or}
use Rattle.std.proofs.Math.Nat.{pow-suc}
use Rattle.std.proofs.lemmas.Bool.{cases_lt}
use Rattle.std.proofs.lemmas.Bool.Decides.{nat_tests}
use Rattle.std.proofs.lemmas.List.{get_or_append_left, get_or-append_right}
use Rattle.argos_base.specs.SignalSets.{has}
use Rattle.argos_base.proofs.Bools.{true_or_false}
use Rattle.eqn_core.specs.Equations.{bit_lines, word_lines}
use Rattle.eqn_core.specs.Solutions.{Values, bit_of, word_of}
use Rattle.eqn_completion.specs.Binary.{code_bits, in_binary, digits_in, FitsIn}
use Rattle.eqn_verdict.specs.Branches.{digits_of, digit_lines}
use Rattle.eqn_completion.proofs.CodeDigits.{digit-is, next-off, next-on}
use Rattle.eqn_completion.proofs.Counting.{bits-append, words-append}
use Rattle.eqn_completion.proofs.Ordering.{length-code}
use Rattle.eqn_core.proofs.LinePlaces.{AreAt, at_left, at_behind_bits}

pub bits-digits : (r w : ℕ) → bit_lines (digits_of r w) ≡ w
bits-digits r zero = refl
bits-digits r (suc w) = omega (arith, bits-digits r w)

pub words-digits : (r w : ℕ) → word_lines (digits_of r w) ≡ 0
words-digits r zero = refl
words-digits r (suc w) = omega (arith, words-digits r w)

-- a is some multiple of 2 ^ w, and r
pub digits-are : (s : Values) (b R k w q r : ℕ) → r < 2 ^ w → word_of s k ≡ q * 2 ^ w + r → AreAt s b R (digits_of k w) → (v : ℕ) → v < w → bit_of s (b + v) ≡ has (code_bits w r) v
digits-are s b R k zero q r h e a v l = absurd (omega arith)
digits-are s b R k (suc w) q r h e a v l = elim (true_or_false (nat_le (2 ^ w) r)) [
  | inl y ↦ rw y (let lo = le_tells (2 ^ w) r y in let d = pow-suc 2 w in
      at true (code_bits w (r - 2 ^ w)) v l (digit-is q 1 w (word_of s k) (r - 2 ^ w) (omega arith) (omega arith) (e ∙ next-on q w r lo))
      (digits-are s (suc b) R k w (q * 2 + 1) (r - 2 ^ w) (omega arith) (e ∙ next-on q w r lo) a.1))
  | inr n ↦ rw n (let hi = le_not (2 ^ w) r n in
      at false (code_bits w r) v l (digit-is q 0 w (word_of s k) r (omega arith) hi (e ∙ next-off q w r))
      (digits-are s (suc b) R k w (q * 2 + 0) r hi (e ∙ next-off q w r) a.1))
]
  where
    le_tells : (a b : ℕ) → nat_le a b ≡ true → a ≤ b
    le_tells a b h = grind (arith, nat_tests)

    le_not : (a b : ℕ) → nat_le a b ≡ false → b < a
    le_not a b h = grind (arith, nat_tests)

    at : (x : Bool) (xs : List Bool) (v : ℕ) → v < suc w → nat_eq (word_of s k / 2 ^ w % 2) 1 ≡ x → ((v : ℕ) → v < w → bit_of s (suc b + v) ≡ has xs v) → bit_of s (b + v) ≡ has (x ∷ xs) v
    at x xs zero l first rest = ap (bit_of s) (let z : b + 0 ≡ b = omega arith in z) ∙ a.0 ∙ first
    at x xs (suc v) l first rest = ap (bit_of s) (let z : b + suc v ≡ suc b + v = omega arith in z) ∙ rest v (omega arith)

pub bits-digit_lines : (k : ℕ) (widths : List ℕ) → bit_lines (digit_lines k widths) ≡ digits_in widths
bits-digit_lines k [] = refl
bits-digit_lines k (w ∷ widths) = omega (arith, bits-append (digits_of k w) (digit_lines (suc k) widths), bits-digits k w, bits-digit_lines (suc k) widths)

pub words-digit_lines : (k : ℕ) (widths : List ℕ) → word_lines (digit_lines k widths) ≡ 0
words-digit_lines k [] = refl
words-digit_lines k (w ∷ widths) = omega (arith, words-append (digits_of k w) (digit_lines (suc k) widths), words-digits k w, words-digit_lines (suc k) widths)

-- the digit lines have the digits of a memory
pub memory-digits : (s : Values) (b R k : ℕ) (widths m : List ℕ) → FitsIn widths m → ((j : ℕ) → j < length m → word_of s (k + j) ≡ slice_index_or m j 0) → AreAt s b R (digit_lines k widths) → (v : ℕ) → v < digits_in widths → bit_of s (b + v) ≡ has (in_binary widths m) v
memory-digits s b R k [] m h e a v l = absurd (omega arith)
memory-digits s b R k (w ∷ widths) [] h e a v l = absurd h
memory-digits s b R k (w ∷ widths) (x ∷ m) h e a v l = elim (cases_lt v w) [
  | inl low ↦
      let here : word_of s k ≡ 0 * 2 ^ w + x = ap (word_of s) (let z : k ≡ k + 0 = omega arith in z) ∙ e 0 (omega arith) ∙ (let z : x ≡ 0 * 2 ^ w + x = omega arith in z) in
      digits-are s b R k w 0 x h.0 here (at_left s b R (digits_of k w) (digit_lines (suc k) widths) a) v low
      ∙ sym (get_or_append_left (code_bits w x) (in_binary widths m) false v (omega (arith, length-code w x)))
  | inr high ↦
      let rest = memory-digits s (b + w) R (suc k) widths m h.1 (λ j below. ap (word_of s) (let z : suc k + j ≡ k + suc j = omega arith in z) ∙ e (suc j) (omega arith)) (at_behind_bits s b R w (digits_of k w) (digit_lines (suc k) widths) (bits-digits k w) (words-digits k w) a) (v - w) (omega arith) in
      ap (bit_of s) (let z : b + v ≡ b + w + (v - w) = omega arith in z) ∙ rest
      ∙ sym (get_or-append_right (code_bits w x) (in_binary widths m) w v false (length-code w x) high)
]
