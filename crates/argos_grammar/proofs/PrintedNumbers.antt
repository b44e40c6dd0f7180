-- The decimal digits of a number spell it.
use Rattle.std.proofs.Common.{◌≡◌, ℕ, ◌+◌, ◌*◌, ◌-◌, ◌/◌, ◌%◌, ◌^◌, ◌<◌, ◌≤◌, List, [], ◌∷◌, ◌++◌, Bool, true, false, decimal, refl, ◌∙◌, arith}
use Rattle.std.specs.Prelude.{◌==◌}
use Rattle.std.specs.Char.{is_ascii_digit}
use Rattle.std.proofs.lemmas.Fmt.{decimal_by_steps}
use Rattle.std.proofs.lemmas.List.Folds.{list_all-append}
use Rattle.std.proofs.lemmas.Bool.Decides.{nat_tests}
use Rattle.argos_base.specs.Spelling.{is_digits, value_from, number_of, has_leading_zero, Spells}
use Rattle.argos_base.proofs.Bools.{and_first, and_second, and_both, false_not}

abbrev begins_with_zero : List ℕ → Bool
begins_with_zero [] = false
begins_with_zero (d ∷ ds) = d == 48

-- these are the digits of n, and they begin with 0 only if they are "0"
record IsDecimal (n : ℕ) (ds : List ℕ) : Type 0 where
  digits : is_digits ds ≡ true
  value : number_of ds ≡ n
  leads : has_leading_zero ds ≡ false
  begins : 0 < n → begins_with_zero ds ≡ false

value_more : (n : ℕ) (ds : List ℕ) (d : ℕ) → value_from n (ds ++ d ∷ []) ≡ 10 * value_from n ds + (d - 48)
value_more n [] d = refl
value_more n (e ∷ ds) d = value_more (10 * n + (e - 48)) ds d

digits_more : (ds : List ℕ) (d : ℕ) → is_digits ds ≡ true → is_ascii_digit d ≡ true → is_digits (ds ++ d ∷ []) ≡ true
digits_more [] d h k = cc h
digits_more (e ∷ ds) d h k = and_both (is_ascii_digit e) _ (and_first (is_ascii_digit e) _ h) (list_all-append is_ascii_digit ds (d ∷ []) ∙ and_both _ _ (and_second (is_ascii_digit e) _ h) (and_both (is_ascii_digit d) true k refl))

leads_more : (ds : List ℕ) (d : ℕ) → is_digits ds ≡ true → has_leading_zero (ds ++ d ∷ []) ≡ begins_with_zero ds
leads_more [] d h = refl
leads_more (e ∷ []) d h = refl
leads_more (e ∷ f ∷ ds) d h = refl

begins_more : (ds : List ℕ) (d : ℕ) → is_digits ds ≡ true → begins_with_zero (ds ++ d ∷ []) ≡ begins_with_zero ds
begins_more [] d h = cc h
begins_more (e ∷ ds) d h = refl

digit_of : (n : ℕ) → n < 10 → is_ascii_digit (48 + n) ≡ true
digit_of n l = grind (arith, nat_tests)

no_zero : (n : ℕ) → 0 < n → (48 + n == 48) ≡ false
no_zero n l = grind (arith, nat_tests)

one_digit : (n : ℕ) → n < 10 → IsDecimal n ((48 + n) ∷ [])
one_digit n l = record { digits = and_both (is_ascii_digit (48 + n)) true (digit_of n l) refl; value = omega arith; leads = refl; begins = no_zero n }

one_digit_more : (n : ℕ) (ds : List ℕ) → 10 ≤ n → IsDecimal (n / 10) ds → IsDecimal n (ds ++ ((48 + n % 10) ∷ []))
one_digit_more n ds l h =
    let some : 0 < n / 10 = omega arith in
    let last : n % 10 < 10 = omega arith in
    let front : value_from 0 ds ≡ n / 10 = h.value in
    let value : value_from 0 (ds ++ ((48 + n % 10) ∷ [])) ≡ n = omega (arith, value_more 0 ds (48 + n % 10), front) in
    record {
      digits = digits_more ds (48 + n % 10) h.digits (digit_of (n % 10) last);
      value = value;
      leads = leads_more ds (48 + n % 10) h.digits ∙ h.begins some;
      begins = λ _. begins_more ds (48 + n % 10) h.digits ∙ h.begins some;
    }

decimal_is : (n : ℕ) → n < 2 ^ 64 → IsDecimal n (decimal n)
decimal_is = decimal_by_steps IsDecimal one_digit one_digit_more

-- the digits of a number, and that they are the one spelling of it
pub decimal_digits : (n : ℕ) → n ≤ 65535 → is_digits (decimal n) ≡ true
decimal_digits n l = (decimal_is n (omega arith)).digits

pub decimal_spells : (n : ℕ) → n ≤ 65535 → Spells n (decimal n)
decimal_spells n l = let h = decimal_is n (omega arith) in (and_both (is_digits (decimal n)) _ h.digits (false_not _ h.leads), h.value)
