-- Bytes above the space: those of names and numbers.
use Rattle.std.proofs.Common.{◌≡◌, ℕ, ◌≤◌, List, [], ◌∷◌, Bool, true, ◌&&◌, ◌||◌, IsTrue, refl, sym, subst, arith, inl, inr}
use Rattle.std.specs.Prelude.{nat_eq, nat_le}
use Rattle.std.specs.Char.{is_ascii_digit}
use Rattle.std.specs.List.{list_all}
use Rattle.std.proofs.lemmas.Bool.Decides.{nat_tests}
use Rattle.argos_base.specs.Names.{Spelled}
use Rattle.argos_base.specs.Spelling.{is_letter, is_letter_or_digit, is_name, is_digits, is_word, is_free_word}
use Rattle.argos_base.proofs.Bools.{and_first, and_second, and_both, or_cases}
use Rattle.line_format.specs.Lines.{is_inner, IsLine}
use Rattle.line_format.specs.Numerals.{numeral}
use Rattle.line_format.proofs.Numbers.{numeral_digits}

abbrev pub is_plain : List ℕ → Bool
is_plain = list_all (nat_le 33)

-- plain words have no LF
pub plain_inner : (w : Spelled) → IsTrue (is_plain w) → IsLine w
plain_inner [] h = refl
plain_inner (b ∷ w) h = and_both _ _ (above b (and_first _ _ h)) (plain_inner w (and_second (nat_le 33 b) _ h))
  where
    above : (b : ℕ) → IsTrue (nat_le 33 b) → IsTrue (is_inner b)
    above b h = grind (arith, nat_tests)

same_byte : (b k : ℕ) → nat_eq b k ≡ true → b ≡ k
same_byte b k h = grind (arith, nat_tests)

all_plain : (p : ℕ → Bool) → ((b : ℕ) → IsTrue (p b) → IsTrue (nat_le 33 b)) → (bs : List ℕ) → IsTrue (list_all p bs) → IsTrue (is_plain bs)
all_plain p h [] e = refl
all_plain p h (b ∷ bs) e = and_both _ _ (h b (and_first _ _ e)) (all_plain p h bs (and_second (p b) _ e))

digit_plain : (b : ℕ) → IsTrue (is_ascii_digit b) → IsTrue (nat_le 33 b)
digit_plain b h = grind (arith, nat_tests)

between_plain : (lo hi b : ℕ) → 33 ≤ lo → (nat_le lo b && nat_le b hi) ≡ true → IsTrue (nat_le 33 b)
between_plain lo hi b m h = at_least lo b m (and_first (nat_le lo b) _ h)
  where
    at_least : (lo b : ℕ) → 33 ≤ lo → nat_le lo b ≡ true → IsTrue (nat_le 33 b)
    at_least lo b m h = grind (arith, nat_tests)

letter_plain : (b : ℕ) → is_letter b ≡ true → IsTrue (nat_le 33 b)
letter_plain b h = elim (or_cases ((nat_le 65 b && nat_le b 90) || (nat_le 97 b && nat_le b 122)) (nat_eq b 95) h) [
  | inl y ↦ elim (or_cases (nat_le 65 b && nat_le b 90) (nat_le 97 b && nat_le b 122) y) [
    | inl z ↦ between_plain 65 90 b (omega arith) z
    | inr z ↦ between_plain 97 122 b (omega arith) z
  ]
  | inr y ↦ let e : b ≡ 95 = same_byte b 95 y in subst (λ k. IsTrue (nat_le 33 k)) (sym e) refl
]

letter_or_digit_plain : (b : ℕ) → IsTrue (is_letter_or_digit b) → IsTrue (nat_le 33 b)
letter_or_digit_plain b h = elim (or_cases (is_letter b) (is_ascii_digit b) h) [ inl y ↦ letter_plain b y | inr y ↦ digit_plain b y ]

word_plain : (w : List ℕ) → is_word w ≡ true → IsTrue (is_plain w)
word_plain [] h = cc h
word_plain (b ∷ w) h = and_both _ _ (letter_plain b (and_first (is_letter b) _ h)) (all_plain is_letter_or_digit letter_or_digit_plain w (and_second (is_letter b) _ h))

pub name_plain : (w : List ℕ) → is_name w ≡ true → IsTrue (is_plain w)
name_plain w h = word_plain w (and_first (is_word w) _ (and_first (is_free_word w) _ h))

digits_plain : (w : List ℕ) → is_digits w ≡ true → IsTrue (is_plain w)
digits_plain [] h = refl
digits_plain (b ∷ w) h = and_both _ _ (digit_plain b (and_first (is_ascii_digit b) _ h)) (all_plain is_ascii_digit digit_plain w (and_second (is_ascii_digit b) _ h))

pub numeral_plain : (n : ℕ) → IsTrue (is_plain (numeral n))
numeral_plain n = digits_plain (numeral n) (numeral_digits n)
