-- The bytes of the parts of a C file.
use Rattle.std.specs.Prelude.{ℕ, ◌+◌, List, [], ◌∷◌, ◌++◌, codes, Bool, true, nat_le}
use Rattle.argos_base.specs.Names.{Spelled}
use Rattle.eqn_core.specs.Equations.{Choice, code, Case}
use Rattle.line_format.specs.Numerals.{numeral}
use Rattle.c_step.specs.CStep.{CValue, digit_of, CStat, set_bit, set_word, set_out}
use Rattle.c_step.specs.CFile.{indexed, bit_place, word_text, case_text, value_text}

-- comments that begin so, each with a name
abbrev pub comments_text : List ℕ → List Spelled → List ℕ
comments_text front [] = []
comments_text front (name ∷ names) = (front ++ (name ++ codes " */\n")) ++ comments_text front names

abbrev pub sizes_text : ℕ → ℕ → List ℕ
sizes_text n m = codes "struct argos { unsigned int w[" ++ (numeral n ++ (codes "]; unsigned int b[" ++ (numeral m ++ codes "]; };\n")))

-- a line with its LF
abbrev pub line_end : List ℕ → List ℕ
line_end l = l ++ 10 ∷ []

-- the codes of the registers from number k on
abbrev pub codes_text : ℕ → List ℕ → List ℕ
codes_text k [] = []
codes_text k (c ∷ cs) = line_end (word_text k (code c)) ++ codes_text (k + 1) cs

abbrev pub further_text : ℕ → List Case → List ℕ
further_text k [] = []
further_text k (c ∷ cases) = (codes "else " ++ line_end (case_text k c)) ++ further_text k cases

abbrev pub cases_text : ℕ → List Case → Choice → List ℕ
cases_text k [] other = line_end (word_text k other)
cases_text k (c ∷ cases) other = line_end (case_text k c) ++ (further_text k cases ++ (codes "else " ++ line_end (word_text k other)))

abbrev pub statement_text : CStat → List ℕ
statement_text (set_bit k v) = line_end (bit_place k (codes " = " ++ value_text v))
statement_text (set_word k cases other) = cases_text k cases other
statement_text (set_out j k) = line_end (indexed (codes "out[") j (codes " = " ++ bit_place k (codes ";")))

abbrev pub statements_text : List CStat → List ℕ
statements_text [] = []
statements_text (x ∷ xs) = statement_text x ++ statements_text xs

-- the place of a digit has a power of 2 in 16 bits
abbrev pub small_place : CValue → Bool
small_place (digit_of w place) = nat_le place 15
small_place _ = true

abbrev pub has_small_place : CStat → Bool
has_small_place (set_bit k v) = small_place v
has_small_place _ = true
