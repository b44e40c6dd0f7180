-- A number has one spelling.
use Rattle.std.proofs.Common.{◌≡◌, ℕ, zero, suc, ◌+◌, ◌*◌, ◌-◌, ◌/◌, ◌%◌, ◌^◌, ◌<◌, ◌≤◌, List, [], ◌∷◌, ◌++◌, Bool, true, false, ◌&&◌, IsTrue, length, map, ◌⊎◌, inl, inr, refl, sym, ap, ◌∙◌, subst, length-append, arith, cond}
use Rattle.std.specs.Prelude.{nat_eq, ◌==◌}
use Rattle.std.specs.List.{list_all}
use Rattle.std.specs.Char.{is_ascii_digit}
use Rattle.std.specs.Int.Digits.{digits_of}
use Rattle.std.proofs.lemmas.Int.Digits.{digits_of_step}
use Rattle.std.specs.Fmt.{decimal}
use Rattle.std.proofs.lemmas.Fmt.{decimal-digits_of, decimal_digit}
use Rattle.std.proofs.lemmas.List.{map-append}
use Rattle.std.proofs.lemmas.List.Folds.{list_all-append}
use Rattle.std.proofs.lemmas.Bool.Decides.{nat_tests}
use Rattle.argos_base.specs.Spelling.{is_digits, value_from, number_of, has_leading_zero, is_numeral}
use Rattle.argos_base.proofs.Bools.{and_first, and_second, and_both, false_not, not_false}
use Rattle.line_format.specs.Numerals.{numeral}

abbrev begins_with_zero : List ℕ → Bool
begins_with_zero [] = false
begins_with_zero (d ∷ ds) = d == 48

-- these are the digits of n, and they begin with 0 only if they are "0"
record IsDecimal (n : ℕ) (ds : List ℕ) : Type 0 where
  digits : is_digits ds ≡ true
  value : number_of ds ≡ n
  leads : has_leading_zero ds ≡ false
  begins : 0 < n → begins_with_zero ds ≡ false

pub value_more : (n : ℕ) (ds : List ℕ) (d : ℕ) → value_from n (ds ++ d ∷ []) ≡ 10 * value_from n ds + (d - 48)
value_more n [] d = refl
value_more n (e ∷ ds) d = value_more (10 * n + (e - 48)) ds d

digits_more : (ds : List ℕ) (d : ℕ) → is_digits ds ≡ true → is_ascii_digit d ≡ true → is_digits (ds ++ d ∷ []) ≡ true
digits_more [] d h k = cc h
digits_more (e ∷ ds) d h k = and_both (is_ascii_digit e) _ (and_first (is_ascii_digit e) _ h) (list_all-append is_ascii_digit ds (d ∷ []) ∙ and_both _ _ (and_second (is_ascii_digit e) _ h) (and_both (is_ascii_digit d) true k refl))

leads_more : (ds : List ℕ) (d : ℕ) → is_digits ds ≡ true → has_leading_zero (ds ++ d ∷ []) ≡ begins_with_zero ds
leads_more [] d h = refl
leads_more (e ∷ []) d h = refl
leads_more (e ∷ f ∷ ds) d h = refl

begins_more : (ds : List ℕ) (d : ℕ) → is_digits ds ≡ true → begins_with_zero (ds ++ d ∷ []) ≡ begins_with_zero ds
begins_more [] d h = cc h
begins_more (e ∷ ds) d h = refl

digit_at : (n : ℕ) → n < 10 → is_ascii_digit (48 + n) ≡ true
digit_at n l = grind (arith, nat_tests)

no_zero : (n : ℕ) → 0 < n → (48 + n == 48) ≡ false
no_zero n l = grind (arith, nat_tests)

one_digit : (n : ℕ) → n < 10 → IsDecimal n ((48 + n) ∷ [])
one_digit n l = record { digits = and_both (is_ascii_digit (48 + n)) true (digit_at n l) refl; value = omega arith; leads = refl; begins = no_zero n }

one_digit_more : (n : ℕ) (ds : List ℕ) → 10 ≤ n → IsDecimal (n / 10) ds → IsDecimal n (ds ++ ((48 + n % 10) ∷ []))
one_digit_more n ds l h =
    let some : 0 < n / 10 = omega arith in
    let last : n % 10 < 10 = omega arith in
    let front : value_from 0 ds ≡ n / 10 = h.value in
    let value : value_from 0 (ds ++ ((48 + n % 10) ∷ [])) ≡ n = omega (arith, value_more 0 ds (48 + n % 10), front) in
    record {
      digits = digits_more ds (48 + n % 10) h.digits (digit_at (n % 10) last);
      value = value;
      leads = leads_more ds (48 + n % 10) h.digits ∙ h.begins some;
      begins = λ _. begins_more ds (48 + n % 10) h.digits ∙ h.begins some;
    }

some_number : (n : ℕ) → 0 < n → nat_eq n 0 ≡ false
some_number n h = grind (arith, nat_tests)

numeral_some : (n : ℕ) → 0 < n → numeral n ≡ map (λ d. 48 + d) (digits_of 10 n)
numeral_some n h = ap (λ (b : Bool). cond b (48 ∷ []) (map (λ d. 48 + d) (digits_of 10 n))) (some_number n h)

pub numeral_digit : (n : ℕ) → n < 10 → numeral n ≡ (48 + n) ∷ []
numeral_digit zero h = refl
numeral_digit (suc n) h =
    let low : suc n / 10 ≡ 0 = omega arith in
    let same : suc n % 10 ≡ suc n = omega arith in
    numeral_some (suc n) (omega arith)
    ∙ ap (λ ds. map (λ d. 48 + d) ds) (digits_of_step 10 (suc n) (omega arith) (omega arith))
    ∙ ap (λ k. map (λ d. 48 + d) (digits_of 10 k ++ (suc n % 10 ∷ []))) low
    ∙ ap (λ k. (48 + k) ∷ []) same

pub numeral_step : (n : ℕ) → 10 ≤ n → numeral n ≡ numeral (n / 10) ++ ((48 + n % 10) ∷ [])
numeral_step n h =
    numeral_some n (omega arith)
    ∙ ap (λ ds. map (λ d. 48 + d) ds) (digits_of_step 10 n (omega arith) (omega arith))
    ∙ map-append (λ d. 48 + d) (digits_of 10 (n / 10)) (n % 10 ∷ [])
    ∙ ap (λ ds. ds ++ ((48 + n % 10) ∷ [])) (sym (numeral_some (n / 10) (omega arith)))

numeral_is : (f n : ℕ) → n < f → IsDecimal n (numeral n)
numeral_is zero n h = absurd (omega arith)
numeral_is (suc f) n h = elim (small_or_not n) [
  | inl y ↦ subst (IsDecimal n) (sym (numeral_digit n y)) (one_digit n y)
  | inr y ↦ subst (IsDecimal n) (sym (numeral_step n y)) (one_digit_more n (numeral (n / 10)) y (numeral_is f (n / 10) (omega arith)))
]
  where
    small_or_not : (n : ℕ) → (n < 10) ⊎ (10 ≤ n)
    small_or_not n = grind arith

pub numeral_digits : (n : ℕ) → is_digits (numeral n) ≡ true
numeral_digits n = (numeral_is (suc n) n (omega arith)).digits

pub numeral_is_numeral : (n : ℕ) → IsTrue (is_numeral (numeral n))
numeral_is_numeral n = let h = numeral_is (suc n) n (omega arith) in and_both (is_digits (numeral n)) _ h.digits (false_not _ h.leads)

pub number_of-numeral : (n : ℕ) → number_of (numeral n) ≡ n
number_of-numeral n = (numeral_is (suc n) n (omega arith)).value

-- a list and one more
data Snoc (bs : List ℕ) : Type 0 where
  nothing : bs ≡ [] → Snoc bs
  one_more : (front : List ℕ) (b : ℕ) → bs ≡ front ++ b ∷ [] → Snoc bs

snoc_cons : (b : ℕ) (bs : List ℕ) → Snoc bs → Snoc (b ∷ bs)
snoc_cons b bs (nothing e) = one_more [] b (ap (λ z. b ∷ z) e)
snoc_cons b bs (one_more front c e) = one_more (b ∷ front) c (ap (λ z. b ∷ z) e)

snoc : (bs : List ℕ) → Snoc bs
snoc [] = nothing refl
snoc (b ∷ bs) = snoc_cons b bs (snoc bs)

value_grows : (n : ℕ) (ds : List ℕ) → n ≤ value_from n ds
value_grows n [] = omega arith
value_grows n (d ∷ ds) = omega (arith, value_grows (10 * n + (d - 48)) ds)

digit_bounds : (d : ℕ) → is_ascii_digit d ≡ true → (48 ≤ d) × (d < 58)
digit_bounds d h = (grind (arith, nat_tests), grind (arith, nat_tests))

positive : (d : ℕ) (ds : List ℕ) → is_digits (d ∷ ds) ≡ true → begins_with_zero (d ∷ ds) ≡ false → 0 < number_of (d ∷ ds)
positive d ds h e =
    let bounds = digit_bounds d (and_first (is_ascii_digit d) _ h) in
    let other : 48 < d = more_than d bounds.0 e in
    let start : d - 48 ≤ value_from (10 * 0 + (d - 48)) ds = omega (arith, value_grows (10 * 0 + (d - 48)) ds) in
    omega arith
  where
    more_than : (d : ℕ) → 48 ≤ d → (d == 48) ≡ false → 48 < d
    more_than d h e = grind (arith, nat_tests)

joined : (m d : ℕ) (front : List ℕ) → 0 < m → numeral m ≡ front → is_ascii_digit d ≡ true → numeral (10 * m + (d - 48)) ≡ front ++ d ∷ []
joined m d front some e h =
    let bounds = digit_bounds d h in
    let n : ℕ = 10 * m + (d - 48) in
    let low : 48 ≤ d = bounds.0 in
    let high : d < 58 = bounds.1 in
    let big : 10 ≤ n = omega arith in
    let tens : n / 10 ≡ m = omega arith in
    let ones : 48 + n % 10 ≡ d = omega arith in
    numeral_step n big ∙ ap (λ k. numeral k ++ ((48 + n % 10) ∷ [])) tens ∙ ap (λ k. numeral m ++ k ∷ []) ones ∙ ap (λ z. z ++ d ∷ []) e

lone : (d : ℕ) → is_ascii_digit d ≡ true → numeral (10 * 0 + (d - 48)) ≡ d ∷ []
lone d h =
    let bounds = digit_bounds d h in
    let low : 48 ≤ d = bounds.0 in
    let high : d < 58 = bounds.1 in
    let n : ℕ = 10 * 0 + (d - 48) in
    let small : n < 10 = omega arith in
    let same : 48 + n ≡ d = omega arith in
    numeral_digit n small ∙ ap (λ k. k ∷ []) same

last_digit : (front : List ℕ) (d : ℕ) → is_digits (front ++ d ∷ []) ≡ true → is_ascii_digit d ≡ true
last_digit [] d h = and_first (is_ascii_digit d) _ h
last_digit (c ∷ cs) d h =
    let rest : (list_all is_ascii_digit cs && (is_ascii_digit d && true)) ≡ true = sym (list_all-append is_ascii_digit cs (d ∷ [])) ∙ and_second (is_ascii_digit c) _ h in
    and_first (is_ascii_digit d) _ (and_second (list_all is_ascii_digit cs) _ rest)

front_digits : (c : ℕ) (cs : List ℕ) (d : ℕ) → is_digits ((c ∷ cs) ++ d ∷ []) ≡ true → is_digits (c ∷ cs) ≡ true
front_digits c cs d h =
    let rest : (list_all is_ascii_digit cs && (is_ascii_digit d && true)) ≡ true = sym (list_all-append is_ascii_digit cs (d ∷ [])) ∙ and_second (is_ascii_digit c) _ h in
    and_both (is_ascii_digit c) _ (and_first (is_ascii_digit c) _ h) (and_first (list_all is_ascii_digit cs) _ rest)

no_leading : (c : ℕ) (cs : List ℕ) → begins_with_zero (c ∷ cs) ≡ false → has_leading_zero (c ∷ cs) ≡ false
no_leading c [] h = refl
no_leading c (e ∷ cs) h = h

-- where the front is read back, so is the whole
back_at : (front : List ℕ) (d : ℕ) → ((c : ℕ) (cs : List ℕ) → front ≡ c ∷ cs → is_digits front ≡ true → has_leading_zero front ≡ false → numeral (number_of front) ≡ front) → is_digits (front ++ d ∷ []) ≡ true → has_leading_zero (front ++ d ∷ []) ≡ false
    → numeral (number_of (front ++ d ∷ [])) ≡ front ++ d ∷ []
back_at [] d r h e = lone d (and_first (is_ascii_digit d) _ h)
back_at (c ∷ cs) d r h e =
    let digits : is_digits (c ∷ cs) ≡ true = front_digits c cs d h in
    let begins : begins_with_zero (c ∷ cs) ≡ false = sym (leads_more (c ∷ cs) d digits) ∙ e in
    let front : numeral (number_of (c ∷ cs)) ≡ c ∷ cs = r c cs refl digits (no_leading c cs begins) in
    ap numeral (value_more 0 (c ∷ cs) d) ∙ joined (number_of (c ∷ cs)) d (c ∷ cs) (positive c cs digits begins) front (last_digit (c ∷ cs) d h)

back : (f : ℕ) (bs : List ℕ) → length bs < f → is_digits bs ≡ true → has_leading_zero bs ≡ false → numeral (number_of bs) ≡ bs
back zero bs s h e = absurd (omega arith)
back (suc f) bs s h e = elim (snoc bs) [
  | nothing n ↦ let no : is_digits [] ≡ true = ap is_digits (sym n) ∙ h in cc no
  | one_more front d n ↦
      let shorter : length front < f = omega (arith, length-append front (d ∷ []), ap length n) in
      ap (λ z. numeral (number_of z)) n
      ∙ back_at front d (λ c cs k digits leads. back f front shorter digits leads) (ap is_digits (sym n) ∙ h) (ap has_leading_zero (sym n) ∙ e)
      ∙ sym n
]

-- a numeral is the spelling of its number
pub numeral-number_of : (bs : List ℕ) → IsTrue (is_numeral bs) → numeral (number_of bs) ≡ bs
numeral-number_of bs h = back (suc (length bs)) bs (omega arith) (and_first (is_digits bs) _ h) (not_false _ (and_second (is_digits bs) _ h))

-- what is printed for a number is its numeral
pub decimal-numeral : (n : ℕ) → n < 2 ^ 64 → decimal n ≡ numeral n
decimal-numeral zero h = decimal_digit 0 (omega arith)
decimal-numeral (suc n) h = decimal-digits_of (suc n) (omega arith) h ∙ sym (numeral_some (suc n) (omega arith))
