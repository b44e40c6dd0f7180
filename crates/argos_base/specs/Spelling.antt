-- How names and numbers are spelled.
use Rattle.std.specs.Prelude.{◌≡◌, ℕ, ◌+◌, ◌-◌, ◌*◌, List, [], ◌∷◌, length, Bool, false, ◌&&◌, ◌||◌, not, nat_le, ◌==◌, IsTrue, codes, bytes_eq}
use Rattle.std.specs.List.{list_all, list_any}
use Rattle.std.specs.Char.{is_ascii_digit}
use Rattle.argos_base.specs.Limits.{name_limit}

-- A to Z, a to z, or _
abbrev pub is_letter : ℕ → Bool
is_letter b = (nat_le 65 b && nat_le b 90) || (nat_le 97 b && nat_le b 122) || b == 95

abbrev pub is_letter_or_digit : ℕ → Bool
is_letter_or_digit b = is_letter b || is_ascii_digit b

-- a letter, and letters and digits after it
abbrev pub is_word : List ℕ → Bool
is_word [] = false
is_word (b ∷ bs) = is_letter b && list_all is_letter_or_digit bs

-- one digit or more
abbrev pub is_digits : List ℕ → Bool
is_digits [] = false
is_digits (b ∷ bs) = is_ascii_digit b && list_all is_ascii_digit bs

-- the text is one of these
abbrev pub is_one_of : List (List ℕ) → List ℕ → Bool
is_one_of texts text = list_any (bytes_eq text) texts

-- the words that are no names
unfoldable pub reserved_words : List (List ℕ)
reserved_words =
    codes "argos" ∷ codes "larissa" ∷ codes "bisim" ∷ codes "component" ∷ codes "automaton" ∷ codes "init" ∷ codes "state" ∷ codes "body"
    ∷ codes "when" ∷ codes "emit" ∷ codes "goto" ∷ codes "after" ∷ codes "of" ∷ codes "local" ∷ codes "freeze" ∷ codes "run" ∷ codes "in"
    ∷ codes "and" ∷ codes "or" ∷ codes "not" ∷ codes "true" ∷ codes "false" ∷ codes "advice" ∷ codes "toInit" ∷ codes "toCurrent"
    ∷ codes "toSaved" ∷ codes "strict" ∷ codes "relation" ∷ codes "lhs" ∷ codes "rhs" ∷ codes "inactive" ∷ codes "elapsed" ∷ codes "samecode" ∷ []

abbrev pub is_reserved : List ℕ → Bool
is_reserved = is_one_of reserved_words

-- a word that isn't reserved, of any length
abbrev pub is_free_word : List ℕ → Bool
is_free_word bs = is_word bs && not (is_reserved bs)

-- the spelling of a name: a word of at most 64 bytes that isn't reserved
abbrev pub is_name : List ℕ → Bool
is_name bs = is_free_word bs && nat_le (length bs) name_limit

abbrev pub IsName : List ℕ → Type 0
IsName bs = IsTrue (is_name bs)

-- the number that digits spell, where those before them spell n
abbrev pub value_from : ℕ → List ℕ → ℕ
value_from n [] = n
value_from n (d ∷ ds) = value_from (10 * n + (d - 48)) ds

abbrev pub number_of : List ℕ → ℕ
number_of = value_from 0

-- several digits that begin with 0
abbrev pub has_leading_zero : List ℕ → Bool
has_leading_zero [] = false
has_leading_zero (d ∷ []) = false
has_leading_zero (d ∷ e ∷ ds) = d == 48

-- a decimal number without leading zeros
abbrev pub is_numeral : List ℕ → Bool
is_numeral bs = is_digits bs && not (has_leading_zero bs)

-- the text is the one spelling of n
abbrev pub Spells : ℕ → List ℕ → Type 0
Spells n bs = IsTrue (is_numeral bs) × (number_of bs ≡ n)
