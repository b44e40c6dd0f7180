-- Which token stands in the way first, and why.
use Rattle.std.specs.Prelude.{◌≡◌, ℕ, ◌-◌, List, [], ◌∷◌, length, Option, Some, None, Result, Ok, Err, Bool, false, ◌&&◌, ◌||◌, not, ◌==◌, nat_lt, codes, bytes_eq, if◌then◌else◌, IsUtf8}
use Rattle.std.specs.Str.{IsValidUpTo}
use Rattle.argos_base.specs.Limits.{name_limit, level_limit, number_limit}
use Rattle.argos_base.specs.Spelling.{is_free_word, is_digits, has_leading_zero, number_of, is_one_of}
use Rattle.argos_tokens.specs.Tokens.{Token, Reads, Skips, IsTokens, IsStuck}
use Rattle.argos_grammar.specs.DueSymbols.{Rule, Symbol, text, name, version, count, number, rule, option, repeat, take_symbol, may_end}

pub data Kind : Type 0 where
  NotUtf8 Byte LongName Number OtherToken Version TooDeep End : Kind

-- what is open: a bracket, or a `not` whose unit has not ended
pub data Open : Type 0 where
  bracket negation : Open

-- the units of these `not`s have ended
abbrev pub without_negations : List Open → List Open
without_negations [] = []
without_negations (bracket ∷ os) = bracket ∷ os
without_negations (negation ∷ os) = without_negations os

abbrev pub without_bracket : List Open → List Open
without_bracket [] = []
without_bracket (o ∷ os) = without_negations os

abbrev pub is_opening : List ℕ → Bool
is_opening = is_one_of (codes "{" ∷ codes "(" ∷ codes "[" ∷ [])

abbrev pub is_closing : List ℕ → Bool
is_closing = is_one_of (codes "}" ∷ codes ")" ∷ codes "]" ∷ [])

abbrev pub is_not : List ℕ → Bool
is_not t = bytes_eq t (codes "not")

-- what is open after one more token, the last of these first
abbrev pub open_behind : List Open → List ℕ → List Open
open_behind os t = if is_opening t then bracket ∷ os else (if is_not t then negation ∷ os else (if is_closing t then without_bracket os else without_negations os))

-- the token is at a level, one more than what is open, above the limit
abbrev pub is_too_deep : List Open → List ℕ → Bool
is_too_deep os t = (is_opening t || is_not t) && nat_lt (level_limit - 1) (length os)

abbrev pub is_long_name : List ℕ → Bool
is_long_name t = is_free_word t && nat_lt name_limit (length t)

abbrev pub is_wrong_number : List ℕ → Bool
is_wrong_number t = is_digits t && (nat_lt number_limit (number_of t) || has_leading_zero t)

-- what is due, and what is open
pub record Standing : Type 0 where
  pub due : List Symbol
  pub open_now : List Open

-- the number of a version that isn't 1, and that of a timeout that is 0
abbrev pub is_wrong_version : Symbol → List ℕ → Bool
is_wrong_version version t = not (number_of t == 1)
is_wrong_version (text s) t = false
is_wrong_version name t = false
is_wrong_version count t = false
is_wrong_version number t = false
is_wrong_version (rule r) t = false
is_wrong_version (option r) t = false
is_wrong_version (repeat r) t = false

abbrev pub is_wrong_count : Symbol → List ℕ → Bool
is_wrong_count count t = number_of t == 0
is_wrong_count version t = false
is_wrong_count (text s) t = false
is_wrong_count name t = false
is_wrong_count number t = false
is_wrong_count (rule r) t = false
is_wrong_count (option r) t = false
is_wrong_count (repeat r) t = false

-- the rows that follow Token, of a token that this symbol takes
abbrev pub after_taking : List Open → List ℕ → Option (Symbol × List Symbol) → Result Standing Kind
after_taking os t None = Err OtherToken
after_taking os t (Some taking) = if is_wrong_version taking.0 t then Err Version
    else (if is_wrong_count taking.0 t then Err Number
    else (if is_too_deep os t then Err TooDeep else Ok (record { due = taking.1; open_now = open_behind os t })))

-- the first row that holds of the token, in the order of the table, or what is due and open after it
abbrev pub judge : Standing → List ℕ → Result Standing Kind
judge s t = if is_long_name t then Err LongName
    else (if is_wrong_number t then Err Number else after_taking s.open_now t (take_symbol s.due t))

abbrev pub at_start : Rule → Standing
at_start start = record { due = rule start ∷ []; open_now = [] }

-- no row holds of any of the tokens, and then this is due and open
abbrev pub Passes : Standing → List Token → Standing → Type 0
Passes s [] s' = s ≡ s'
Passes s (t ∷ ts) s' = (next : Standing) × (judge s t.text ≡ Ok next) × Passes next ts s'

-- The first fault of a text that should follow this rule, and its place.
pub data FirstFault (start : Rule) (bs : List ℕ) : ℕ → Kind → Type 0 where
  not_utf8 : {n : ℕ} → IsValidUpTo bs n → FirstFault start bs n NotUtf8
  no_token : {n m : ℕ} (ts : List Token) (last rest : List ℕ) (s : Standing) → IsUtf8 bs → Reads 0 bs ts n last → Passes (at_start start) ts s
      → Skips n last m rest → IsStuck rest → FirstFault start bs m Byte
  wrong : {n m : ℕ} {k : Kind} (ts : List Token) (t : Token) (last rest : List ℕ) (s : Standing) → IsUtf8 bs → Reads 0 bs ts n last → Passes (at_start start) ts s
      → Reads n last (t ∷ []) m rest → judge s t.text ≡ Err k → FirstFault start bs t.at k
  ended : (ts : List Token) (s : Standing) → IsUtf8 bs → IsTokens bs ts → Passes (at_start start) ts s → may_end s.due ≡ false → FirstFault start bs (length bs) End
