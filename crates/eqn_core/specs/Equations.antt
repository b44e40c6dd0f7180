-- Systems of equations as plain data. Source: this project.
use Rattle.std.specs.Prelude.{ℕ, ◌+◌, List, [], ◌∷◌, Bool, length}

-- a bit, or its opposite
pub record Literal : Type 0 where
  pub bit : ℕ
  pub negated : Bool

-- a number, a word, or the word plus one
pub data Choice : Type 0 where
  code : ℕ → Choice
  word : ℕ → Choice
  next : ℕ → Choice

-- what is chosen where the literal is true
pub record Case : Type 0 where
  pub when : Literal
  pub choice : Choice

-- what defines one bit: all literals, some literal, a word within bounds, or a binary digit of a word; or what defines one word: the first case that holds, else another choice
pub data Line : Type 0 where
  all : List Literal → Line
  any : List Literal → Line
  within : ℕ → ℕ → ℕ → Line
  digit : ℕ → ℕ → Line
  choose : List Case → Choice → Line

-- a system: the inputs are the first bits, the registers the first words, and each line defines the next bit or word
pub record Equations : Type 0 where
  pub inputs : ℕ
  pub initial : List ℕ
  pub lines : List Line
  pub outputs : List ℕ
  pub locals : List ℕ
  pub next : List ℕ

abbrev pub registers : Equations → ℕ
registers E = length E.initial

-- how many bits a line defines, and how many words: one or the other
abbrev pub bits_of_line : Line → ℕ
bits_of_line (choose cases other) = 0
bits_of_line _ = 1

abbrev pub words_of_line : Line → ℕ
words_of_line (choose cases other) = 1
words_of_line _ = 0

-- how many of the lines define a bit, and how many a word
abbrev pub bit_lines : List Line → ℕ
bit_lines [] = 0
bit_lines (l ∷ lines) = bits_of_line l + bit_lines lines

abbrev pub word_lines : List Line → ℕ
word_lines [] = 0
word_lines (l ∷ lines) = words_of_line l + word_lines lines

abbrev pub bit_count : Equations → ℕ
bit_count E = E.inputs + bit_lines E.lines

abbrev pub word_count : Equations → ℕ
word_count E = registers E + word_lines E.lines

-- one for each line, and one more for each literal of `all` and `any` and each case of `choose`
abbrev pub line_weight : Line → ℕ
line_weight (all ls) = 1 + length ls
line_weight (any ls) = 1 + length ls
line_weight (within w lo hi) = 1
line_weight (digit w place) = 1
line_weight (choose cases other) = 1 + length cases

abbrev pub lines_weight : List Line → ℕ
lines_weight [] = 0
lines_weight (l ∷ lines) = line_weight l + lines_weight lines

abbrev pub weight_of : Equations → ℕ
weight_of E = lines_weight E.lines
