-- What the words of a line say, read from the first on.
use Rattle.std.specs.Prelude.{ℕ, List, [], ◌∷◌, Bool, true, false, Option, Some, None, codes, bytes_eq, nat_eq, if◌then◌else◌}
use Rattle.argos_base.specs.Names.{Spelled}
use Rattle.argos_base.specs.Spelling.{is_name, is_numeral, number_of}
use Rattle.eqn_core.specs.Equations.{Literal, Choice, code, word, next, Case, Line, all, any, within, digit, choose}
use Rattle.line_format.proofs.Options.{bind, only_if, keyword, nothing_more}
use Rattle.eqn_file.specs.EquationFile.{FileLine, head, input_count, input_name, output_count, output_name, register_count, a_code, line_count, a_line, an_out, a_next, the_end, Part, head_due, inputs_due, outputs_due, registers_due, lines_due, end_due, nothing_due, input_name_due, output_name_due, code_due, line_due, out_due, next_due}

-- what the first words say, and the words behind them
pub record Taken (A : Type 0) : Type 0 where
  pub value : A
  pub rest : List Spelled

abbrev pub taken : {A : Type 0} → A → List Spelled → Taken A
taken a ws = record { value = a; rest = ws }

abbrev pub number : List ℕ → Option ℕ
number w = only_if (is_numeral w) (Some (number_of w))

abbrev pub take_number : List Spelled → Option (Taken ℕ)
take_number [] = None
take_number (w ∷ ws) = bind (number w) (λ n. Some (taken n ws))

abbrev pub number_then : {A : Type 0} → (ℕ → List Spelled → Option A) → List Spelled → Option A
number_then f ws = bind (take_number ws) (λ t. f t.value t.rest)

abbrev pub sign : ℕ → Option Bool
sign c = if nat_eq c 43 then Some false else only_if (nat_eq c 45) (Some true)

abbrev pub literal : List ℕ → Option Literal
literal [] = None
literal (c ∷ cs) = bind (sign c) (λ b. bind (number cs) (λ n. Some (record { bit = n; negated = b })))

abbrev pub take_literal : List Spelled → Option (Taken Literal)
take_literal [] = None
take_literal (w ∷ ws) = bind (literal w) (λ l. Some (taken l ws))

abbrev pub literals : List Spelled → Option (List Literal)
literals [] = Some []
literals (w ∷ ws) = bind (literal w) (λ l. bind (literals ws) (λ ls. Some (l ∷ ls)))

-- choices: two words
abbrev pub choice_kind : Spelled → ℕ → Option Choice
choice_kind w n = if bytes_eq w (codes "code") then Some (code n) else if bytes_eq w (codes "word") then Some (word n) else only_if (bytes_eq w (codes "next")) (Some (next n))

abbrev pub choice : Spelled → Spelled → Option Choice
choice w v = bind (number v) (choice_kind w)

abbrev pub take_choice : List Spelled → Option (Taken Choice)
take_choice [] = None
take_choice (w ∷ []) = None
take_choice (w ∷ v ∷ ws) = bind (choice w v) (λ c. Some (taken c ws))

-- chains: `when LIT PICK` any number of times, and `else PICK`
pub record Chain : Type 0 where
  pub cases : List Case
  pub other : Choice

abbrev pub one_more_case : Literal → Choice → Chain → Chain
one_more_case l c k = record { cases = record { when = l; choice = c } ∷ k.cases; other = k.other }

abbrev pub last_choice : Choice → Chain
last_choice c = record { cases = []; other = c }

abbrev pub chain : List Spelled → Option Chain
chain [] = None
chain (a ∷ []) = None
chain (a ∷ b ∷ []) = None
chain (a ∷ b ∷ c ∷ []) = only_if (bytes_eq a (codes "else")) (bind (choice b c) (λ p. Some (last_choice p)))
chain (a ∷ b ∷ c ∷ d ∷ more) = only_if (bytes_eq a (codes "when")) (bind (literal b) (λ l. bind (choice c d) (λ p. bind (chain more) (λ k. Some (one_more_case l p k)))))

-- lines of the system, behind their first word
abbrev pub all_of : List Spelled → Option Line
all_of ws = bind (literals ws) (λ ls. Some (all ls))

abbrev pub any_of : List Spelled → Option Line
any_of ws = bind (literals ws) (λ ls. Some (any ls))

abbrev pub within_of : List Spelled → Option Line
within_of = number_then (λ w. number_then (λ lo. number_then (λ hi. nothing_more (within w lo hi))))

abbrev pub digit_of : List Spelled → Option Line
digit_of = number_then (λ w. number_then (λ place. nothing_more (digit w place)))

abbrev pub choose_of : List Spelled → Option Line
choose_of ws = bind (chain ws) (λ k. Some (choose k.cases k.other))

abbrev pub line_by : Spelled → List Spelled → Option Line
line_by k ws =
    if bytes_eq k (codes "all") then all_of ws
    else if bytes_eq k (codes "any") then any_of ws
    else if bytes_eq k (codes "within") then within_of ws
    else if bytes_eq k (codes "bit") then digit_of ws
    else only_if (bytes_eq k (codes "choose")) (choose_of ws)

abbrev pub read_line : List Spelled → Option Line
read_line [] = None
read_line (k ∷ ws) = line_by k ws

-- a word and a number
abbrev pub keyed : Spelled → List Spelled → Option ℕ
keyed k = keyword k (number_then (λ n. nothing_more n))

abbrev pub one_name : List Spelled → Option Spelled
one_name [] = None
one_name (w ∷ ws) = only_if (is_name w) (nothing_more w ws)

abbrev pub one_number : List Spelled → Option ℕ
one_number = number_then (λ n. nothing_more n)

abbrev pub read_head : List Spelled → Option FileLine
read_head = keyword (codes "argos-eq") (keyword (codes "1") (nothing_more head))

abbrev pub read_end : List Spelled → Option FileLine
read_end = keyword (codes "end") (nothing_more the_end)

-- what the words of a due line say
abbrev pub read : Part → List Spelled → Option FileLine
read head_due ws = read_head ws
read inputs_due ws = bind (keyed (codes "inputs") ws) (λ n. Some (input_count n))
read (input_name_due k) ws = bind (one_name ws) (λ n. Some (input_name n))
read outputs_due ws = bind (keyed (codes "outputs") ws) (λ n. Some (output_count n))
read (output_name_due k) ws = bind (one_name ws) (λ n. Some (output_name n))
read registers_due ws = bind (keyed (codes "registers") ws) (λ n. Some (register_count n))
read (code_due k) ws = bind (one_number ws) (λ n. Some (a_code n))
read lines_due ws = bind (keyed (codes "lines") ws) (λ n. Some (line_count n))
read (line_due k) ws = bind (read_line ws) (λ l. Some (a_line l))
read (out_due k) ws = bind (keyed (codes "out") ws) (λ n. Some (an_out n))
read (next_due k) ws = bind (keyed (codes "next") ws) (λ n. Some (a_next n))
read end_due ws = read_end ws
read nothing_due ws = None
