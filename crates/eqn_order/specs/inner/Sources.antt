-- Which line defines which bit and which word, and the graph that this gives.
use Rattle.std.specs.Prelude.{ℕ, suc, ◌-◌, List, [], ◌∷◌, ◌++◌, Option, Some, None, Bool, true, false, if◌then◌else◌, nat_lt, map, slice_set, slice_index_or}
use Rattle.eqn_core.specs.Equations.{Literal, Case, Line, all, any, within, digit, choose, Equations, registers}

-- the lines of the bits behind the inputs, and of the words behind the registers
pub record Origins : Type 0 where
  pub inputs : ℕ
  pub registers : ℕ
  pub bits : List (Option ℕ)
  pub words : List (Option ℕ)

abbrev pub defines_word : Line → Bool
defines_word (choose cases other) = true
defines_word _ = false

-- the places of the lines that define bits, and of those that define words, where the first line is at p
abbrev pub bit_places : ℕ → List Line → List (Option ℕ)
bit_places p [] = []
bit_places p (l ∷ lines) = if defines_word l then bit_places (suc p) lines else Some p ∷ bit_places (suc p) lines

abbrev pub word_places : ℕ → List Line → List (Option ℕ)
word_places p [] = []
word_places p (l ∷ lines) = if defines_word l then Some p ∷ word_places (suc p) lines else word_places (suc p) lines

abbrev pub origins_of : Equations → Origins
origins_of E = record { inputs = E.inputs; registers = registers E; bits = bit_places 0 E.lines; words = word_places 0 E.lines }

abbrev pub line_of_bit : Origins → ℕ → Option ℕ
line_of_bit T k = if nat_lt k T.inputs then None else slice_index_or T.bits (k - T.inputs) None

abbrev pub line_of_word : Origins → ℕ → Option ℕ
line_of_word T k = if nat_lt k T.registers then None else slice_index_or T.words (k - T.registers) None

-- the same with a bit taken as given
abbrev pub with_given : Origins → ℕ → Origins
with_given T k = record T { bits = if nat_lt k T.inputs then T.bits else slice_set T.bits (k - T.inputs) None }

abbrev pub all_given : Origins → List ℕ → Origins
all_given T [] = T
all_given T (k ∷ ks) = all_given (with_given T k) ks

abbrev pub or_nothing : Option ℕ → List ℕ
or_nothing None = []
or_nothing (Some x) = x ∷ []

abbrev pub lines_of_literals : Origins → List Literal → List ℕ
lines_of_literals T [] = []
lines_of_literals T (l ∷ ls) = or_nothing (line_of_bit T l.bit) ++ lines_of_literals T ls

abbrev pub lines_of_cases : Origins → List Case → List ℕ
lines_of_cases T [] = []
lines_of_cases T (c ∷ cases) = or_nothing (line_of_bit T c.when.bit) ++ lines_of_cases T cases

-- the lines whose bits and words a line reads
abbrev pub lines_read : Origins → Line → List ℕ
lines_read T (all ls) = lines_of_literals T ls
lines_read T (any ls) = lines_of_literals T ls
lines_read T (within w lo hi) = or_nothing (line_of_word T w)
lines_read T (digit w place) = or_nothing (line_of_word T w)
lines_read T (choose cases other) = lines_of_cases T cases

abbrev pub graph_of : Origins → List Line → List (List ℕ)
graph_of T = map (lines_read T)
