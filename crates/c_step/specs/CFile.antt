-- C files: their lines, and which line is due after the lines so far. Source: this project.
use Rattle.std.specs.Prelude.{◌≡◌, ℕ, zero, suc, ◌+◌, ◌^◌, List, [], ◌∷◌, ◌++◌, length, map, flat_map, None, Bool, true, false, ◌&&◌, not, nat_lt, nat_le, nat_eq, codes, if◌then◌else◌}
use Rattle.argos_base.specs.Limits as limits
use Rattle.argos_base.specs.Names.{Spelled}
use Rattle.argos_base.specs.SignalSets.{lists}
use Rattle.argos_base.specs.Spelling.{is_name, is_one_of}
use Rattle.eqn_core.specs.Equations.{Literal, Choice, code, word, next, Case}
use Rattle.c_step.specs.CStep.{array_limit, CValue, constant, each_of, some_of, between, digit_of, input_of, CStat, set_bit, set_word, set_out, CStep, Assigned, nothing_assigned, assigns, may_choose, may_case, may_stand, IsCStep}
use Rattle.line_format.specs.Lines.{Format, lines_then, IsFault}
use Rattle.line_format.specs.Numerals.{numeral}

-- what a line says
pub data CLine : Type 0 where
  opening : CLine
  input_comment : Spelled → CLine
  output_comment : Spelled → CLine
  array_sizes : ℕ → ℕ → CLine
  init_head : CLine
  init_code : ℕ → ℕ → CLine
  step_head : CLine
  bit_line : ℕ → CValue → CLine
  word_line : ℕ → Choice → CLine
  first_case : ℕ → Case → CLine
  further_case : ℕ → Case → CLine
  last_case : ℕ → Choice → CLine
  out_line : ℕ → ℕ → CLine
  closing : CLine

-- the bytes of a part of a line, and then the rest
abbrev pub indexed : List ℕ → ℕ → List ℕ → List ℕ
indexed array k rest = array ++ (numeral k ++ (codes "]" ++ rest))

abbrev pub bit_place : ℕ → List ℕ → List ℕ
bit_place = indexed (codes "m->b[")

abbrev pub word_place : ℕ → List ℕ → List ℕ
word_place = indexed (codes "m->w[")

abbrev pub literal_then : Literal → List ℕ → List ℕ
literal_then l rest = if l.negated then codes "!" ++ bit_place l.bit rest else bit_place l.bit rest

-- further literals, each behind this text
abbrev pub literals_then : List ℕ → List Literal → List ℕ → List ℕ
literals_then sign [] rest = rest
literals_then sign (l ∷ ls) rest = sign ++ literal_then l (literals_then sign ls rest)

abbrev pub joined_literals : List ℕ → List Literal → List ℕ → List ℕ
joined_literals sign [] rest = rest
joined_literals sign (l ∷ ls) rest = literal_then l (literals_then sign ls rest)

-- the values and choices with the `;` that ends the line
abbrev pub choice_text : Choice → List ℕ
choice_text (code n) = numeral n ++ codes "u;"
choice_text (word w) = word_place w (codes ";")
choice_text (next w) = word_place w (codes " <= 65534u ? " ++ word_place w (codes " + 1u : 0u;"))

abbrev pub value_text : CValue → List ℕ
value_text (constant b) = if b then codes "1u;" else codes "0u;"
value_text (each_of ls) = joined_literals (codes " && ") ls (codes ";")
value_text (some_of ls) = joined_literals (codes " || ") ls (codes ";")
value_text (between w lo hi) = numeral lo ++ (codes "u <= " ++ word_place w (codes " && " ++ word_place w (codes " <= " ++ (numeral hi ++ codes "u;"))))
value_text (digit_of w place) = word_place w (codes " / " ++ (numeral (2 ^ place) ++ codes "u % 2u;"))
value_text (input_of j) = indexed (codes "in[") j (codes " != 0u;")

abbrev pub word_text : ℕ → Choice → List ℕ
word_text k p = word_place k (codes " = " ++ choice_text p)

abbrev pub case_text : ℕ → Case → List ℕ
case_text k c = codes "if (" ++ literal_then c.when (codes ") " ++ word_text k c.choice)

abbrev pub line_text : CLine → List ℕ
line_text opening = codes "/* argos-c 1 */"
line_text (input_comment name) = codes "/* input " ++ (name ++ codes " */")
line_text (output_comment name) = codes "/* output " ++ (name ++ codes " */")
line_text (array_sizes n m) = codes "struct argos { unsigned int w[" ++ (numeral n ++ (codes "]; unsigned int b[" ++ (numeral m ++ codes "]; };")))
line_text init_head = codes "void argos_init(struct argos *m) {"
line_text (init_code k c) = word_text k (code c)
line_text step_head = codes "void argos_step(struct argos *m, const unsigned int *in, unsigned int *out) {"
line_text (bit_line k v) = bit_place k (codes " = " ++ value_text v)
line_text (word_line k p) = word_text k p
line_text (first_case k c) = case_text k c
line_text (further_case k c) = codes "else " ++ case_text k c
line_text (last_case k p) = codes "else " ++ word_text k p
line_text (out_line j k) = indexed (codes "out[") j (codes " = " ++ bit_place k (codes ";"))
line_text closing = codes "}"

-- what may come: the first line, an input, an output, the head of `argos_init`, a register, the head of `argos_step`, a statement, a further case of a word, nothing
pub data CPart : Type 0 where
  opening_due inputs_due outputs_due init_due codes_due step_due statements_due nothing_due : CPart
  cases_due : ℕ → List Case → CPart

-- what is due, the step as far as the lines say it, and what its statements assigned
pub record CStage : Type 0 where
  pub due : CPart
  pub step : CStep
  pub assigned : Assigned

abbrev pub c_stage : CPart → CStep → Assigned → CStage
c_stage p s a = record { due = p; step = s; assigned = a }

abbrev pub no_step : CStep
no_step = record { names = record { inputs = []; outputs = [] }; words = 0; bits = 0; initial = []; statements = [] }

abbrev pub is_size : ℕ → Bool
is_size n = nat_le 1 n && nat_le n array_limit

abbrev pub is_new_name : CStep → Spelled → Bool
is_new_name s name = is_name name && not (is_one_of (s.names.inputs ++ s.names.outputs) name)

-- each number below n is listed
abbrev pub all_listed : ℕ → List ℕ → Bool
all_listed zero ks = true
all_listed (suc n) ks = lists ks n && all_listed n ks

abbrev pub is_due_at : CPart → CStep → Assigned → CLine → Bool
is_due_at opening_due s a opening = true
is_due_at inputs_due s a (input_comment name) = is_new_name s name && nat_lt (length s.names.inputs) limits.signal_limit
is_due_at inputs_due s a (output_comment name) = is_new_name s name && nat_lt (length s.names.outputs) limits.signal_limit
is_due_at inputs_due s a (array_sizes n m) = is_size n && is_size m
is_due_at outputs_due s a (output_comment name) = is_new_name s name && nat_lt (length s.names.outputs) limits.signal_limit
is_due_at outputs_due s a (array_sizes n m) = is_size n && is_size m
is_due_at init_due s a init_head = true
is_due_at codes_due s a (init_code k c) = nat_eq k (length s.initial) && (nat_lt k s.words && nat_le c limits.code_limit)
is_due_at codes_due s a closing = nat_le 1 (length s.initial)
is_due_at step_due s a step_head = true
is_due_at statements_due s a (bit_line k v) = may_stand s a (set_bit k v)
is_due_at statements_due s a (word_line k p) = may_stand s a (set_word k [] p)
is_due_at statements_due s a (first_case k c) = nat_lt k s.words && may_case s a c
is_due_at statements_due s a (out_line j k) = may_stand s a (set_out j k)
is_due_at statements_due s a closing = all_listed (length s.names.outputs) a.outs
is_due_at (cases_due k cases) s a (further_case j c) = nat_eq k j && may_case s a c
is_due_at (cases_due k cases) s a (last_case j p) = nat_eq k j && may_choose s a p
is_due_at _ s a _ = false

-- the stage behind a statement, and behind a line
abbrev pub with_statement : CStep → Assigned → CStat → CStage
with_statement s a x = c_stage statements_due (record s { statements = s.statements ++ x ∷ [] }) (assigns a x)

abbrev pub after_closing : CPart → CPart
after_closing codes_due = step_due
after_closing _ = nothing_due

abbrev pub chain_so_far : CPart → List Case
chain_so_far (cases_due k cases) = cases
chain_so_far _ = []

abbrev pub after_at : CStage → CLine → CStage
after_at t opening = c_stage inputs_due t.step t.assigned
after_at t (input_comment name) = c_stage inputs_due (record t.step { names = record t.step.names { inputs = t.step.names.inputs ++ name ∷ [] } }) t.assigned
after_at t (output_comment name) = c_stage outputs_due (record t.step { names = record t.step.names { outputs = t.step.names.outputs ++ name ∷ [] } }) t.assigned
after_at t (array_sizes n m) = c_stage init_due (record t.step { words = n; bits = m }) t.assigned
after_at t init_head = c_stage codes_due t.step t.assigned
after_at t (init_code k c) = c_stage codes_due (record t.step { initial = t.step.initial ++ c ∷ [] }) t.assigned
after_at t step_head = c_stage statements_due t.step t.assigned
after_at t (bit_line k v) = with_statement t.step t.assigned (set_bit k v)
after_at t (word_line k p) = with_statement t.step t.assigned (set_word k [] p)
after_at t (first_case k c) = c_stage (cases_due k (c ∷ [])) t.step t.assigned
after_at t (further_case k c) = c_stage (cases_due k (chain_so_far t.due ++ c ∷ [])) t.step t.assigned
after_at t (last_case k p) = with_statement t.step t.assigned (set_word k (chain_so_far t.due) p)
after_at t (out_line j k) = with_statement t.step t.assigned (set_out j k)
after_at t closing = c_stage (after_closing t.due) t.step t.assigned

abbrev pub is_finished : CPart → Bool
is_finished nothing_due = true
is_finished _ = false

-- all that is wrong with a line makes it one that isn't due
abbrev pub c_format : Format CStage CLine (Unit {0})
c_format = record {
  start = c_stage opening_due no_step nothing_assigned;
  is_end = λ t. is_finished t.due;
  is_due = λ t l. is_due_at t.due t.step t.assigned l;
  spelled = line_text;
  wrong = λ t l. None;
  after = after_at;
  misspelled = tt;
  trailing = tt;
}

-- the lines that say a step, and the bytes that do
abbrev pub code_lines : ℕ → List ℕ → List CLine
code_lines k [] = []
code_lines k (c ∷ cs) = init_code k c ∷ code_lines (k + 1) cs

abbrev pub statement_lines : CStat → List CLine
statement_lines (set_bit k v) = bit_line k v ∷ []
statement_lines (set_word k [] other) = word_line k other ∷ []
statement_lines (set_word k (c ∷ cases) other) = first_case k c ∷ map (further_case k) cases ++ last_case k other ∷ []
statement_lines (set_out j k) = out_line j k ∷ []

abbrev pub c_lines : CStep → List CLine
c_lines s =
    opening ∷ map input_comment s.names.inputs
    ++ (map output_comment s.names.outputs
    ++ (array_sizes s.words s.bits ∷ init_head ∷ code_lines 0 s.initial
    ++ (closing ∷ step_head ∷ flat_map statement_lines s.statements ++ closing ∷ [])))

abbrev pub c_text : CStep → List ℕ
c_text s = lines_then c_format (c_lines s) []

-- the bytes spell the step, which keeps what a step keeps
pub record IsCText (bs : List ℕ) (s : CStep) : Type 0 where
  pub step : IsCStep s
  pub text : bs ≡ c_text s

-- the first line of the bytes, from 1, that isn't due
abbrev pub CFault : List ℕ → ℕ → Type 0
CFault bs number = IsFault c_format bs number tt
