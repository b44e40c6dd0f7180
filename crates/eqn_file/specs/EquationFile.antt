-- Equation files: their lines, and which line is due after the lines so far. Source: this project.
use Rattle.std.specs.Prelude.{◌≡◌, ℕ, zero, suc, List, [], ◌∷◌, ◌++◌, length, map, Option, Some, None, Bool, true, false, ◌&&◌, nat_lt, nat_le, codes, if◌then◌else◌}
use Rattle.argos_base.specs.Names.{Spelled}
use Rattle.argos_base.specs.Spelling.{is_name, is_one_of}
use Rattle.eqn_core.specs.Equations.{Literal, Choice, code, word, next, Case, Line, all, any, within, digit, choose, Equations, registers, bit_count, word_count}
use Rattle.eqn_core.specs.Ordered.{line_below, IsOrdered}
use Rattle.line_format.specs.FileNames.{FileNames}
use Rattle.line_format.specs.FileNames.{HasNames}
use Rattle.line_format.specs.Lines.{Format, lines_then, IsFault}
use Rattle.line_format.specs.Numerals.{numeral}

-- what a line says
pub data FileLine : Type 0 where
  head : FileLine
  input_count : ℕ → FileLine
  input_name : Spelled → FileLine
  output_count : ℕ → FileLine
  output_name : Spelled → FileLine
  register_count : ℕ → FileLine
  a_code : ℕ → FileLine
  line_count : ℕ → FileLine
  a_line : Line → FileLine
  an_out : ℕ → FileLine
  a_next : ℕ → FileLine
  the_end : FileLine

-- its words
abbrev pub literal_text : Literal → List ℕ
literal_text l = (if l.negated then 45 else 43) ∷ numeral l.bit

abbrev pub choice_words : Choice → List Spelled
choice_words (code n) = codes "code" ∷ numeral n ∷ []
choice_words (word w) = codes "word" ∷ numeral w ∷ []
choice_words (next w) = codes "next" ∷ numeral w ∷ []

abbrev pub chain_words : List Case → Choice → List Spelled
chain_words [] other = codes "else" ∷ choice_words other
chain_words (c ∷ cases) other = codes "when" ∷ literal_text c.when ∷ choice_words c.choice ++ chain_words cases other

abbrev pub line_words : Line → List Spelled
line_words (all ls) = codes "all" ∷ map literal_text ls
line_words (any ls) = codes "any" ∷ map literal_text ls
line_words (within w lo hi) = codes "within" ∷ numeral w ∷ numeral lo ∷ numeral hi ∷ []
line_words (digit w place) = codes "bit" ∷ numeral w ∷ numeral place ∷ []
line_words (choose cases other) = codes "choose" ∷ chain_words cases other

abbrev pub words_of : FileLine → List Spelled
words_of head = codes "argos-eq" ∷ codes "1" ∷ []
words_of (input_count n) = codes "inputs" ∷ numeral n ∷ []
words_of (input_name name) = name ∷ []
words_of (output_count n) = codes "outputs" ∷ numeral n ∷ []
words_of (output_name name) = name ∷ []
words_of (register_count n) = codes "registers" ∷ numeral n ∷ []
words_of (a_code c) = numeral c ∷ []
words_of (line_count n) = codes "lines" ∷ numeral n ∷ []
words_of (a_line l) = line_words l
words_of (an_out b) = codes "out" ∷ numeral b ∷ []
words_of (a_next w) = codes "next" ∷ numeral w ∷ []
words_of the_end = codes "end" ∷ []

-- one space between two words
abbrev pub spaced : List Spelled → List ℕ
spaced [] = []
spaced (w ∷ []) = w
spaced (w ∷ v ∷ ws) = w ++ 32 ∷ spaced (v ∷ ws)

-- which line is due, and how many more of them behind it
pub data Part : Type 0 where
  head_due inputs_due outputs_due registers_due lines_due end_due nothing_due : Part
  input_name_due output_name_due code_due line_due out_due next_due : ℕ → Part

abbrev pub more : Part → ℕ
more (input_name_due k) = k
more (output_name_due k) = k
more (code_due k) = k
more (line_due k) = k
more (out_due k) = k
more (next_due k) = k
more _ = 0

-- with so many left, and then what follows them
abbrev pub input_names_left : ℕ → Part
input_names_left zero = outputs_due
input_names_left (suc k) = input_name_due k

abbrev pub output_names_left : ℕ → Part
output_names_left zero = registers_due
output_names_left (suc k) = output_name_due k

abbrev pub codes_left : ℕ → Part
codes_left zero = lines_due
codes_left (suc k) = code_due k

abbrev pub nexts_left : ℕ → Part
nexts_left zero = end_due
nexts_left (suc k) = next_due k

abbrev pub outs_left : ℕ → ℕ → Part
outs_left zero registers = nexts_left registers
outs_left (suc k) registers = out_due k

abbrev pub lines_left : ℕ → ℕ → ℕ → Part
lines_left zero outputs registers = outs_left outputs registers
lines_left (suc k) outputs registers = line_due k

-- what is due, and what the lines so far say
pub record Stage : Type 0 where
  pub due : Part
  pub system : Equations
  pub names : FileNames

abbrev pub stage : Part → Equations → FileNames → Stage
stage p E n = record { due = p; system = E; names = n }

abbrev pub no_system : Equations
no_system = record { inputs = 0; initial = []; lines = []; outputs = []; locals = []; next = [] }

abbrev pub no_names : FileNames
no_names = record { inputs = []; outputs = [] }

-- a line of this kind is due; a name is one by its spelling
abbrev pub is_due_line : Part → FileLine → Bool
is_due_line head_due head = true
is_due_line inputs_due (input_count n) = true
is_due_line (input_name_due k) (input_name name) = is_name name
is_due_line outputs_due (output_count n) = true
is_due_line (output_name_due k) (output_name name) = is_name name
is_due_line registers_due (register_count n) = true
is_due_line (code_due k) (a_code c) = true
is_due_line lines_due (line_count n) = true
is_due_line (line_due k) (a_line l) = true
is_due_line (out_due k) (an_out b) = true
is_due_line (next_due k) (a_next w) = true
is_due_line end_due the_end = true
is_due_line _ _ = false

-- a line that isn't so spelt, a number outside its range, a name that stood before, bytes behind the end
pub data EquationKind : Type 0 where
  spelling range repeated_name behind_end : EquationKind

abbrev pub unless : EquationKind → Bool → Option EquationKind
unless k ok = if ok then None else Some k

abbrev pub wrong_line_at : Stage → FileLine → Option EquationKind
wrong_line_at s head = None
wrong_line_at s (input_count n) = unless range (nat_le n 16384)
wrong_line_at s (input_name name) = if is_one_of (s.names.inputs ++ s.names.outputs) name then Some repeated_name else None
wrong_line_at s (output_count n) = unless range (nat_le n 16384)
wrong_line_at s (output_name name) = if is_one_of (s.names.inputs ++ s.names.outputs) name then Some repeated_name else None
wrong_line_at s (register_count n) = unless range (nat_le 1 n && nat_le n 100000)
wrong_line_at s (a_code c) = unless range (nat_lt c 65536)
wrong_line_at s (line_count n) = unless range (nat_le n 100000000)
wrong_line_at s (a_line l) = unless range (line_below (bit_count s.system) (word_count s.system) l)
wrong_line_at s (an_out b) = unless range (nat_lt b (bit_count s.system))
wrong_line_at s (a_next w) = unless range (nat_le (registers s.system) w && nat_lt w (word_count s.system))
wrong_line_at s the_end = None

-- the stage behind the line
abbrev pub after_line : Stage → FileLine → Stage
after_line s head = stage inputs_due s.system s.names
after_line s (input_count n) = stage (input_names_left n) (record s.system { inputs = n }) s.names
after_line s (input_name name) = stage (input_names_left (more s.due)) s.system (record s.names { inputs = s.names.inputs ++ name ∷ [] })
after_line s (output_count n) = stage (output_names_left n) s.system s.names
after_line s (output_name name) = stage (output_names_left (more s.due)) s.system (record s.names { outputs = s.names.outputs ++ name ∷ [] })
after_line s (register_count n) = stage (codes_left n) s.system s.names
after_line s (a_code c) = stage (codes_left (more s.due)) (record s.system { initial = s.system.initial ++ c ∷ [] }) s.names
after_line s (line_count n) = stage (lines_left n (length s.names.outputs) (registers s.system)) s.system s.names
after_line s (a_line l) = stage (lines_left (more s.due) (length s.names.outputs) (registers s.system)) (record s.system { lines = s.system.lines ++ l ∷ [] }) s.names
after_line s (an_out b) = stage (outs_left (more s.due) (registers s.system)) (record s.system { outputs = s.system.outputs ++ b ∷ [] }) s.names
after_line s (a_next w) = stage (nexts_left (more s.due)) (record s.system { next = s.system.next ++ w ∷ [] }) s.names
after_line s the_end = stage nothing_due s.system s.names

abbrev pub is_nothing_due : Part → Bool
is_nothing_due nothing_due = true
is_nothing_due _ = false

abbrev pub equation_format : Format Stage FileLine EquationKind
equation_format = record {
  start = stage head_due no_system no_names;
  is_end = λ s. is_nothing_due s.due;
  is_due = λ s l. is_due_line s.due l;
  spelled = λ l. spaced (words_of l);
  wrong = wrong_line_at;
  after = after_line;
  misspelled = spelling;
  trailing = behind_end;
}

-- the lines that say a system and its names, and the bytes that do
abbrev pub file_lines : Equations → FileNames → List FileLine
file_lines E n =
    head ∷ input_count (length n.inputs) ∷ map input_name n.inputs
    ++ (output_count (length n.outputs) ∷ map output_name n.outputs
    ++ (register_count (registers E) ∷ map a_code E.initial
    ++ (line_count (length E.lines) ∷ map a_line E.lines
    ++ (map an_out E.outputs ++ (map a_next E.next ++ the_end ∷ [])))))

abbrev pub file_text : Equations → FileNames → List ℕ
file_text E n = lines_then equation_format (file_lines E n) []

-- the bytes spell the ordered system and its names
pub record IsEquationText (bs : List ℕ) (E : Equations) (n : FileNames) : Type 0 where
  pub ordered : IsOrdered E
  pub names : HasNames E n
  pub text : bs ≡ file_text E n

-- the first bad line of the bytes, from 1, and its kind
abbrev pub EquationFault : List ℕ → ℕ → EquationKind → Type 0
EquationFault = IsFault equation_format
