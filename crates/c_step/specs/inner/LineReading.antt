-- What the bytes of a line say where it is due.
use Rattle.std.specs.Prelude.{ℕ, zero, suc, ◌/◌, ◌%◌, List, [], ◌∷◌, length, Bool, true, false, Option, Some, None, codes, bytes_eq, nat_eq, nat_le, if◌then◌else◌}
use Rattle.argos_base.specs.Names.{Spelled}
use Rattle.argos_base.specs.SignalSets.{lists}
use Rattle.argos_base.specs.Spelling.{is_name}
use Rattle.eqn_core.specs.Equations.{Literal, Choice, code, word, next, Case}
use Rattle.line_format.proofs.Options.{bind, only_if}
use Rattle.c_step.specs.CStep.{CValue, constant, each_of, some_of, between, digit_of, input_of, CStep, Assigned, may_read_word}
use Rattle.c_step.specs.CFile.{CLine, opening, input_comment, output_comment, array_sizes, init_head, init_code, step_head, bit_line, word_line, first_case, further_case, last_case, out_line, closing, CPart, opening_due, inputs_due, outputs_due, init_due, codes_due, step_due, statements_due, cases_due, nothing_due}
use Rattle.c_step.specs.inner.Pieces.{behind, before, begins, skipped, last, Taken, taken, take_number, take_index}

-- what a statement may name: lengths, and the bits and words that may be read
pub record Scope : Type 0 where
  pub inputs : ℕ
  pub outputs : ℕ
  pub words : ℕ
  pub bits : ℕ
  pub has_bit : ℕ → Bool
  pub has_word : ℕ → Bool

abbrev pub scope_at : CStep → Assigned → Scope
scope_at s a = record { inputs = length s.names.inputs; outputs = length s.names.outputs; words = s.words; bits = s.bits; has_bit = lists a.bits; has_word = may_read_word s a }

-- a bit, or a word, that may be read
abbrev pub take_bit : Scope → List ℕ → Option (Taken ℕ)
take_bit sc l = bind (take_index (codes "m->b[") sc.bits l) (λ t. only_if (sc.has_bit t.value) (Some t))

abbrev pub take_word : Scope → List ℕ → Option (Taken ℕ)
take_word sc l = bind (take_index (codes "m->w[") sc.words l) (λ t. only_if (sc.has_word t.value) (Some t))

-- the same word again
abbrev pub take_same : Scope → ℕ → List ℕ → Option (List ℕ)
take_same sc k l = bind (take_index (codes "m->w[") sc.words l) (λ t. only_if (nat_eq t.value k) (Some t.rest))

abbrev pub take_literal : Scope → List ℕ → Option (Taken Literal)
take_literal sc l = bind (take_bit sc (skipped (codes "!") l)) (λ t. Some (taken (record { bit = t.value; negated = begins (codes "!") l }) t.rest))

-- choices, up to the end of the line
abbrev pub read_next : Scope → ℕ → List ℕ → Option Choice
read_next sc k l = bind (behind (codes " <= 65534u ? ") l) (λ l. bind (take_same sc k l) (last (codes " + 1u : 0u;") (next k)))

abbrev pub read_word_choice : Scope → List ℕ → Option Choice
read_word_choice sc l = bind (take_word sc l) (λ t. if bytes_eq t.rest (codes ";") then Some (word t.value) else read_next sc t.value t.rest)

abbrev pub read_code_choice : List ℕ → Option Choice
read_code_choice l = bind (take_number 65536 l) (λ t. last (codes "u;") (code t.value) t.rest)

abbrev pub read_choice : Scope → List ℕ → Option Choice
read_choice sc l = if begins (codes "m->w[") l then read_word_choice sc l else read_code_choice l

-- the place of a power of 2, in so many steps
abbrev pub place_of : ℕ → ℕ → Option ℕ
place_of zero d = None
place_of (suc f) d = if nat_eq d 1 then Some 0 else only_if (nat_eq (d % 2) 0) (bind (place_of f (d / 2)) (λ j. Some (suc j)))

-- literals behind a sign, up to the `;`, in so many steps
abbrev pub more_literals : ℕ → List ℕ → Scope → List ℕ → Option (List Literal)
more_literals zero sign sc l = None
more_literals (suc n) sign sc l = if bytes_eq l (codes ";") then Some [] else bind (behind sign l) (λ l. bind (take_literal sc l) (λ t. bind (more_literals n sign sc t.rest) (λ ks. Some (t.value ∷ ks))))

abbrev pub all_literals : List ℕ → Scope → List ℕ → Option (List Literal)
all_literals sign sc l = more_literals (suc (length l)) sign sc l

-- values, up to the end of the line
abbrev pub read_literals : Scope → List ℕ → Option CValue
read_literals sc l =
    bind (take_literal sc l) (λ t.
    if begins (codes " || ") t.rest then bind (all_literals (codes " || ") sc t.rest) (λ ks. Some (some_of (t.value ∷ ks)))
    else bind (all_literals (codes " && ") sc t.rest) (λ ks. Some (each_of (t.value ∷ ks))))

abbrev pub read_digit : Scope → List ℕ → Option CValue
read_digit sc l = bind (take_word sc l) (λ t. bind (behind (codes " / ") t.rest) (λ l. bind (take_number 65536 l) (λ d. bind (place_of 16 d.value) (λ j. last (codes "u % 2u;") (digit_of t.value j) d.rest))))

abbrev pub read_present : Scope → List ℕ → Option CValue
read_present sc l = bind (take_index (codes "in[") sc.inputs l) (λ t. last (codes " != 0u;") (input_of t.value) t.rest)

abbrev pub read_high : ℕ → ℕ → List ℕ → Option CValue
read_high k lo l = bind (take_number 65536 l) (λ t. only_if (nat_le lo t.value) (last (codes "u;") (between k lo t.value) t.rest))

abbrev pub read_between : Scope → ℕ → List ℕ → Option CValue
read_between sc lo l =
    bind (behind (codes "u <= ") l) (λ l. bind (take_word sc l) (λ t. bind (behind (codes " && ") t.rest) (λ l. bind (take_same sc t.value l) (λ l. bind (behind (codes " <= ") l) (read_high t.value lo)))))

abbrev pub constant_of : ℕ → Option CValue
constant_of n = if nat_eq n 0 then Some (constant false) else only_if (nat_eq n 1) (Some (constant true))

abbrev pub read_numbers : Scope → List ℕ → Option CValue
read_numbers sc l = bind (take_number 65536 l) (λ t. if bytes_eq t.rest (codes "u;") then constant_of t.value else read_between sc t.value t.rest)

abbrev pub read_value : Scope → List ℕ → Option CValue
read_value sc l =
    if begins (codes "m->w[") l then read_digit sc l
    else if begins (codes "in[") l then read_present sc l
    else if begins (codes "m->b[") l then read_literals sc l
    else if begins (codes "!") l then read_literals sc l
    else read_numbers sc l

-- lines of statements
abbrev pub read_bit : Scope → List ℕ → Option CLine
read_bit sc l = bind (take_index (codes "m->b[") sc.bits l) (λ t. bind (behind (codes " = ") t.rest) (λ l. bind (read_value sc l) (λ v. Some (bit_line t.value v))))

pub record WordParts : Type 0 where
  pub to : ℕ
  pub pick : Choice

pub record CaseParts : Type 0 where
  pub to : ℕ
  pub case : Case

abbrev pub word_parts : Scope → List ℕ → Option WordParts
word_parts sc l = bind (take_index (codes "m->w[") sc.words l) (λ t. bind (behind (codes " = ") t.rest) (λ l. bind (read_choice sc l) (λ p. Some (record { to = t.value; pick = p }))))

abbrev pub with_case : Literal → WordParts → CaseParts
with_case l w = record { to = w.to; case = record { when = l; choice = w.pick } }

abbrev pub case_parts : Scope → List ℕ → Option CaseParts
case_parts sc l = bind (behind (codes "if (") l) (λ l. bind (take_literal sc l) (λ t. bind (behind (codes ") ") t.rest) (λ l. bind (word_parts sc l) (λ w. Some (with_case t.value w)))))

abbrev pub read_word : Scope → (ℕ → Choice → CLine) → List ℕ → Option CLine
read_word sc say l = bind (word_parts sc l) (λ w. Some (say w.to w.pick))

abbrev pub read_case : Scope → (ℕ → Case → CLine) → List ℕ → Option CLine
read_case sc say l = bind (case_parts sc l) (λ w. Some (say w.to w.case))

abbrev pub read_out : Scope → List ℕ → Option CLine
read_out sc l = bind (take_index (codes "out[") sc.outputs l) (λ t. bind (behind (codes " = ") t.rest) (λ l. bind (take_bit sc l) (λ b. last (codes ";") (out_line t.value b.value) b.rest)))

abbrev pub read_statement : Scope → List ℕ → Option CLine
read_statement sc l =
    if begins (codes "m->b[") l then read_bit sc l
    else if begins (codes "m->w[") l then read_word sc word_line l
    else if begins (codes "if (") l then read_case sc first_case l
    else if begins (codes "out[") l then read_out sc l
    else last (codes "}") closing l

abbrev pub read_further : Scope → List ℕ → Option CLine
read_further sc l = bind (behind (codes "else ") l) (λ l. if begins (codes "if (") l then read_case sc further_case l else read_word sc last_case l)

-- the other lines
abbrev pub comment_name : List ℕ → List ℕ → Option Spelled
comment_name front l = bind (behind front l) (λ l. bind (before (codes " */") l) (λ name. only_if (is_name name) (Some name)))

abbrev pub read_comment : List ℕ → (Spelled → CLine) → List ℕ → Option CLine
read_comment front say l = bind (comment_name front l) (λ name. Some (say name))

pub record SizeParts : Type 0 where
  pub words : ℕ
  pub bits : ℕ

abbrev pub size_parts : List ℕ → Option SizeParts
size_parts l =
    bind (behind (codes "struct argos { unsigned int w[") l) (λ l. bind (take_number 200000001 l) (λ n. bind (behind (codes "]; unsigned int b[") n.rest) (λ l. bind (take_number 200000001 l) (λ m. last (codes "]; };") (record { words = n.value; bits = m.value }) m.rest))))

abbrev pub read_sizes : List ℕ → Option CLine
read_sizes l = bind (size_parts l) (λ z. Some (array_sizes z.words z.bits))

pub record CodeParts : Type 0 where
  pub register : ℕ
  pub code : ℕ

abbrev pub code_parts : ℕ → List ℕ → Option CodeParts
code_parts words l = bind (take_index (codes "m->w[") words l) (λ t. bind (behind (codes " = ") t.rest) (λ l. bind (take_number 65536 l) (λ c. last (codes "u;") (record { register = t.value; code = c.value }) c.rest)))

abbrev pub read_code : ℕ → List ℕ → Option CLine
read_code words l = bind (code_parts words l) (λ c. Some (init_code c.register c.code))

-- the lines that may come at each part
abbrev pub read_output : List ℕ → Option CLine
read_output l = if begins (codes "/* output ") l then read_comment (codes "/* output ") output_comment l else read_sizes l

abbrev pub read_input : List ℕ → Option CLine
read_input l = if begins (codes "/* input ") l then read_comment (codes "/* input ") input_comment l else read_output l

abbrev pub read_register : ℕ → List ℕ → Option CLine
read_register words l = if bytes_eq l (codes "}") then Some closing else read_code words l

abbrev pub read_part : CPart → CStep → Assigned → List ℕ → Option CLine
read_part opening_due s a l = last (codes "/* argos-c 1 */") opening l
read_part inputs_due s a l = read_input l
read_part outputs_due s a l = read_output l
read_part init_due s a l = last (codes "void argos_init(struct argos *m) {") init_head l
read_part codes_due s a l = read_register s.words l
read_part step_due s a l = last (codes "void argos_step(struct argos *m, const unsigned int *in, unsigned int *out) {") step_head l
read_part statements_due s a l = read_statement (scope_at s a) l
read_part (cases_due k cases) s a l = read_further (scope_at s a) l
read_part nothing_due s a l = None
