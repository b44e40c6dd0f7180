-- The number that digits spell, digit by digit.
use Rattle.std.proofs.Common.{◌≡◌, ℕ, ◌+◌, ◌*◌, ◌-◌, ◌<◌, ◌≤◌, List, [], ◌∷◌, length, get_or, drop, refl, ap, ◌∙◌, sym, arith, true, false, drop-cons, add-one}
use Rattle.std.specs.List.{list_all}
use Rattle.std.specs.Char.{is_ascii_digit}
use Rattle.std.proofs.lemmas.Bool.Decides.{nat_tests}
use Rattle.std.proofs.lemmas.Grind.{common_steps}
use Rattle.std.proofs.lemmas.List.Folds.{list_all_at}
use Rattle.argos_base.specs.Spelling.{is_digits, value_from}

-- the number grows with each digit
pub value_from_grows : (n : ℕ) (ds : List ℕ) → n ≤ value_from n ds
value_from_grows n [] = omega arith
value_from_grows n (d ∷ ds) = let h : 10 * n + (d - 48) ≤ value_from (10 * n + (d - 48)) ds = value_from_grows (10 * n + (d - 48)) ds in omega arith

pub value_from_step : (n : ℕ) (ds : List ℕ) (i : ℕ) → i < length ds → value_from n (drop i ds) ≡ value_from (10 * n + (get_or ds i 0 - 48)) (drop (i + 1) ds)
value_from_step n ds i h = ap (value_from n) (drop-cons ds i 0 h ∙ ap (λ k. get_or ds i 0 ∷ drop k ds) (sym (add-one i)))

all_digits : (ds : List ℕ) → is_digits ds ≡ true → list_all is_ascii_digit ds ≡ true
all_digits [] h = refl
all_digits (d ∷ ds) h = h

digit_above : (b : ℕ) → (is_ascii_digit b ≡ false → ⊥) → (48 ≤ b) × (b ≤ 57)
digit_above b h = grind (arith, nat_tests)

pub digit_at : (ds : List ℕ) (i : ℕ) → is_digits ds ≡ true → i < length ds → (48 ≤ get_or ds i 0) × (get_or ds i 0 ≤ 57)
digit_at ds i h k = digit_above (get_or ds i 0) (λ e. cc (list_all_at is_ascii_digit ds i 0 k e, all_digits ds h))

pub ruleset numbers = (common_steps, nat_tests, value_from_grows, value_from_step, digit_at)
