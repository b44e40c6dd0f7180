-- What the bytes of a C line say where it is due, and that C lines are clear.
use Rattle.std.proofs.Common.{◌≡◌, ℕ, ◌^◌, List, [], ◌∷◌, ◌++◌, Bool, true, false, ◌&&◌, Option, Some, None, IsTrue, inl, inr, refl, sym, ap, ◌∙◌, subst, arith}
use Rattle.std.specs.Prelude.{nat_le, nat_lt, codes}
use Rattle.std.specs.List.{list_all}
use Rattle.std.specs.Char.{is_ascii_digit}
use Rattle.std.proofs.lemmas.List.Folds.{list_all-append}
use Rattle.std.proofs.lemmas.Bool.Decides.{nat_tests}
use Rattle.argos_base.specs.Names.{Spelled}
use Rattle.argos_base.specs.Spelling.{is_letter, is_letter_or_digit, is_name, is_word, is_free_word, is_digits}
use Rattle.argos_base.proofs.Bools.{and_first, and_second, and_both, true_or_false, or_left}
use Rattle.eqn_core.specs.Equations.{Literal, Choice, code, word, next, Case}
use Rattle.line_format.specs.Numerals.{numeral}
use Rattle.c_step.specs.CStep.{CValue, constant, each_of, some_of, between, digit_of, input_of, CStep, Assigned, may_be}
use Rattle.c_step.specs.CFile.{CLine, opening, input_comment, output_comment, array_sizes, init_head, init_code, step_head, bit_line, word_line, first_case, further_case, last_case, out_line, closing, indexed, bit_place, word_place, literal_then, literals_then, joined_literals, choice_text, value_text, word_text, case_text, line_text, CPart, opening_due, inputs_due, outputs_due, init_due, codes_due, step_due, statements_due, nothing_due, cases_due, is_due_at, is_new_name, is_finished, CStage, c_format}
use Rattle.line_format.proofs.Options.{bind, only_if, or_else, bind_is, only_if_is, only_if_true, or_else_is, some_is}
use Rattle.line_format.proofs.Numbers.{numeral_digits}
use Rattle.line_format.specs.Lines.{is_inner, IsLine, Says, says, says_nothing, IsClear}
use Rattle.line_format.proofs.PlainBytes.{name_plain}
use Rattle.line_format.proofs.Answering.{IsExact}
use Rattle.c_step.proofs.CPieces.{Reading, strip, strip_is, strip_reads, span, span_is, span_reads, number_then, number_then_is, number_then_reads, indexed_then, indexed_then_is, indexed_then_reads, last_text, last_text_is, read_literal, read_literal_is, read_literal_reads}
use Rattle.c_step.proofs.CReader.{read_choice, read_choice_is, read_choice_reads, read_value, read_value_is, read_value_reads}

-- a word and what is chosen for it
abbrev choice_then : {A : Type 0} → (ℕ → Choice → A) → ℕ → Reading A
choice_then mk k l = bind (read_choice l) (λ p. Some (mk k p))

abbrev read_word : {A : Type 0} → (ℕ → Choice → A) → Reading A
read_word mk = indexed_then (codes "m->w[") (λ k. strip (codes " = ") (choice_then mk k))

read_word_is : {A : Type 0} (mk : ℕ → Choice → A) (l : List ℕ) (x : A) → read_word mk l ≡ Some x → (k : ℕ) × (p : Choice) × (l ≡ word_text k p) × (mk k p ≡ x)
read_word_is mk l x h =
    let p = indexed_then_is (codes "m->w[") (λ k. strip (codes " = ") (choice_then mk k)) l x h in
    let q = strip_is (codes " = ") (choice_then mk p.0) p.1 x p.3 in
    let r = bind_is (read_choice q.0) (λ c. Some (mk p.0 c)) x q.2 in
    (p.0, r.0, p.2 ∙ ap (λ z. word_place p.0 z) (q.1 ∙ ap (λ z. codes " = " ++ z) (read_choice_is q.0 r.0 r.1)), some_is (mk p.0 r.0) x r.2)

read_word_reads : {A : Type 0} (mk : ℕ → Choice → A) (k : ℕ) (p : Choice) → read_word mk (word_text k p) ≡ Some (mk k p)
read_word_reads mk k p = indexed_then_reads (codes "m->w[") (λ k. strip (codes " = ") (choice_then mk k)) k (codes " = " ++ choice_text p) ∙ ap (λ o. bind o (λ c. Some (mk k c))) (read_choice_reads p)

-- a case
abbrev case_of : (ℕ → Case → CLine) → Literal → ℕ → Choice → CLine
case_of mk l k p = mk k (record { when = l; choice = p })

abbrev read_case : (ℕ → Case → CLine) → Reading CLine
read_case mk = strip (codes "if (") (read_literal (λ l. strip (codes ") ") (read_word (case_of mk l))))

read_case_is : (mk : ℕ → Case → CLine) (l : List ℕ) (x : CLine) → read_case mk l ≡ Some x → (k : ℕ) × (c : Case) × (l ≡ case_text k c) × (mk k c ≡ x)
read_case_is mk l x h =
    let p = strip_is (codes "if (") (read_literal (λ l. strip (codes ") ") (read_word (case_of mk l)))) l x h in
    let q = read_literal_is (λ l. strip (codes ") ") (read_word (case_of mk l))) p.0 x p.2 in
    let r = strip_is (codes ") ") (read_word (case_of mk q.0)) q.1 x q.3 in
    let s = read_word_is (case_of mk q.0) r.0 x r.2 in
    (s.0, record { when = q.0; choice = s.1 }, p.1 ∙ ap (λ z. codes "if (" ++ z) (q.2 ∙ ap (λ z. literal_then q.0 z) (r.1 ∙ ap (λ z. codes ") " ++ z) s.2)), s.3)

read_case_reads : (mk : ℕ → Case → CLine) (k : ℕ) (c : Case) → read_case mk (case_text k c) ≡ Some (mk k c)
read_case_reads mk k c =
    read_literal_reads (λ l. strip (codes ") ") (read_word (case_of mk l))) c.when (codes ") " ++ word_text k c.choice) ∙ read_word_reads (case_of mk c.when) k c.choice

-- a name in a comment
abbrev comment_end : (Spelled → CLine) → List ℕ → Reading CLine
comment_end mk name = last_text (codes " */") (mk name)

abbrev read_comment : List ℕ → (Spelled → CLine) → Reading CLine
read_comment front mk = strip front (span is_letter_or_digit (comment_end mk))

read_comment_is : (front : List ℕ) (mk : Spelled → CLine) (l : List ℕ) (x : CLine) → read_comment front mk l ≡ Some x → (name : Spelled) × (l ≡ front ++ (name ++ codes " */")) × (mk name ≡ x)
read_comment_is front mk l x h =
    let p = strip_is front (span is_letter_or_digit (comment_end mk)) l x h in
    let q = span_is is_letter_or_digit (comment_end mk) p.0 x p.2 in
    let t = last_text_is (codes " */") (mk q.0) x q.1 q.3 in
    (q.0, p.1 ∙ ap (λ z. front ++ z) (q.2 ∙ ap (λ z. q.0 ++ z) t.0), t.1)

word_letters : (w : List ℕ) → is_word w ≡ true → IsTrue (list_all is_letter_or_digit w)
word_letters [] h = cc h
word_letters (b ∷ w) h = and_both _ _ (or_left (is_letter b) _ (and_first (is_letter b) _ h)) (and_second (is_letter b) _ h)

name_letters : (w : List ℕ) → is_name w ≡ true → IsTrue (list_all is_letter_or_digit w)
name_letters w h = word_letters w (and_first (is_word w) _ (and_first (is_free_word w) _ h))

read_comment_reads : (front : List ℕ) (mk : Spelled → CLine) (name : Spelled) → is_name name ≡ true → read_comment front mk (front ++ (name ++ codes " */")) ≡ Some (mk name)
read_comment_reads front mk name h = strip_reads front (span is_letter_or_digit (comment_end mk)) (name ++ codes " */") ∙ span_reads is_letter_or_digit (comment_end mk) name (codes " */") (name_letters name h) refl

-- the sizes of the arrays
abbrev size_end : ℕ → ℕ → Reading CLine
size_end n m = last_text (codes "]; };") (array_sizes n m)

abbrev second_size : ℕ → Reading CLine
second_size n = strip (codes "]; unsigned int b[") (number_then (size_end n))

abbrev read_sizes : Reading CLine
read_sizes = strip (codes "struct argos { unsigned int w[") (number_then second_size)

read_sizes_is : (l : List ℕ) (x : CLine) → read_sizes l ≡ Some x → (n : ℕ) × (m : ℕ) × (l ≡ line_text (array_sizes n m)) × (array_sizes n m ≡ x)
read_sizes_is l x h =
    let p = strip_is (codes "struct argos { unsigned int w[") (number_then second_size) l x h in
    let q = number_then_is second_size p.0 x p.2 in
    let r = strip_is (codes "]; unsigned int b[") (number_then (size_end q.0)) q.1 x q.3 in
    let s = number_then_is (size_end q.0) r.0 x r.2 in
    let t = last_text_is (codes "]; };") (array_sizes q.0 s.0) x s.1 s.3 in
    (q.0, s.0, p.1 ∙ ap (λ z. codes "struct argos { unsigned int w[" ++ z) (q.2 ∙ ap (λ z. numeral q.0 ++ z) (r.1 ∙ ap (λ z. codes "]; unsigned int b[" ++ z) (s.2 ∙ ap (λ z. numeral s.0 ++ z) t.0))), t.1)

read_sizes_reads : (n m : ℕ) → read_sizes (line_text (array_sizes n m)) ≡ Some (array_sizes n m)
read_sizes_reads n m =
    strip_reads (codes "struct argos { unsigned int w[") (number_then second_size) (numeral n ++ (codes "]; unsigned int b[" ++ (numeral m ++ codes "]; };")))
    ∙ number_then_reads second_size n (codes "]; unsigned int b[" ++ (numeral m ++ codes "]; };")) refl
    ∙ number_then_reads (size_end n) m (codes "]; };") refl

-- a register's code
abbrev code_then : ℕ → ℕ → Reading CLine
code_then k c = last_text (codes "u;") (init_code k c)

abbrev read_code : Reading CLine
read_code = indexed_then (codes "m->w[") (λ k. strip (codes " = ") (number_then (code_then k)))

read_code_is : (l : List ℕ) (x : CLine) → read_code l ≡ Some x → (k : ℕ) × (c : ℕ) × (l ≡ line_text (init_code k c)) × (init_code k c ≡ x)
read_code_is l x h =
    let p = indexed_then_is (codes "m->w[") (λ k. strip (codes " = ") (number_then (code_then k))) l x h in
    let q = strip_is (codes " = ") (number_then (code_then p.0)) p.1 x p.3 in
    let r = number_then_is (code_then p.0) q.0 x q.2 in
    let t = last_text_is (codes "u;") (init_code p.0 r.0) x r.1 r.3 in
    (p.0, r.0, p.2 ∙ ap (λ z. word_place p.0 z) (q.1 ∙ ap (λ z. codes " = " ++ z) (r.2 ∙ ap (λ z. numeral r.0 ++ z) t.0)), t.1)

read_code_reads : (k c : ℕ) → read_code (line_text (init_code k c)) ≡ Some (init_code k c)
read_code_reads k c =
    indexed_then_reads (codes "m->w[") (λ k. strip (codes " = ") (number_then (code_then k))) k (codes " = " ++ (numeral c ++ codes "u;")) ∙ number_then_reads (code_then k) c (codes "u;") refl

-- bits and outputs
abbrev value_then : ℕ → Reading CLine
value_then k l = bind (read_value l) (λ v. Some (bit_line k v))

abbrev read_bit : Reading CLine
read_bit = indexed_then (codes "m->b[") (λ k. strip (codes " = ") (value_then k))

read_bit_is : (l : List ℕ) (x : CLine) → read_bit l ≡ Some x → (k : ℕ) × (v : CValue) × (l ≡ line_text (bit_line k v)) × (bit_line k v ≡ x)
read_bit_is l x h =
    let p = indexed_then_is (codes "m->b[") (λ k. strip (codes " = ") (value_then k)) l x h in
    let q = strip_is (codes " = ") (value_then p.0) p.1 x p.3 in
    let r = bind_is (read_value q.0) (λ v. Some (bit_line p.0 v)) x q.2 in
    (p.0, r.0, p.2 ∙ ap (λ z. bit_place p.0 z) (q.1 ∙ ap (λ z. codes " = " ++ z) (read_value_is q.0 r.0 r.1)), some_is (bit_line p.0 r.0) x r.2)

read_bit_reads : (s : CStep) (a : Assigned) (k : ℕ) (v : CValue) → IsTrue (may_be s a v) → read_bit (line_text (bit_line k v)) ≡ Some (bit_line k v)
read_bit_reads s a k v h =
    indexed_then_reads (codes "m->b[") (λ k. strip (codes " = ") (value_then k)) k (codes " = " ++ value_text v) ∙ ap (λ o. bind o (λ v. Some (bit_line k v))) (read_value_reads s a v h)

abbrev out_end : ℕ → ℕ → Reading CLine
out_end j k = last_text (codes ";") (out_line j k)

abbrev out_then : ℕ → Reading CLine
out_then j = strip (codes " = ") (indexed_then (codes "m->b[") (out_end j))

abbrev read_out : Reading CLine
read_out = indexed_then (codes "out[") out_then

read_out_is : (l : List ℕ) (x : CLine) → read_out l ≡ Some x → (j : ℕ) × (k : ℕ) × (l ≡ line_text (out_line j k)) × (out_line j k ≡ x)
read_out_is l x h =
    let p = indexed_then_is (codes "out[") out_then l x h in
    let q = strip_is (codes " = ") (indexed_then (codes "m->b[") (out_end p.0)) p.1 x p.3 in
    let r = indexed_then_is (codes "m->b[") (out_end p.0) q.0 x q.2 in
    let t = last_text_is (codes ";") (out_line p.0 r.0) x r.1 r.3 in
    (p.0, r.0, p.2 ∙ ap (λ z. indexed (codes "out[") p.0 z) (q.1 ∙ ap (λ z. codes " = " ++ z) (r.2 ∙ ap (λ z. bit_place r.0 z) t.0)), t.1)

read_out_reads : (j k : ℕ) → read_out (line_text (out_line j k)) ≡ Some (out_line j k)
read_out_reads j k = indexed_then_reads (codes "out[") out_then j (codes " = " ++ bit_place k (codes ";")) ∙ indexed_then_reads (codes "m->b[") (out_end j) k (codes ";")

-- where a line is due
abbrev read_statement : Reading CLine
read_statement l = or_else (read_bit l) (or_else (read_word word_line l) (or_else (read_case first_case l) (or_else (read_out l) (last_text (codes "}") closing l))))

abbrev behind_else : Reading CLine
behind_else l = or_else (read_case further_case l) (read_word last_case l)

abbrev read_output : Reading CLine
read_output l = or_else (read_comment (codes "/* output ") output_comment l) (read_sizes l)

abbrev pub read : CPart → Reading CLine
read opening_due l = last_text (codes "/* argos-c 1 */") opening l
read inputs_due l = or_else (read_comment (codes "/* input ") input_comment l) (read_output l)
read outputs_due l = read_output l
read init_due l = last_text (codes "void argos_init(struct argos *m) {") init_head l
read codes_due l = or_else (read_code l) (last_text (codes "}") closing l)
read step_due l = last_text (codes "void argos_step(struct argos *m, const unsigned int *in, unsigned int *out) {") step_head l
read statements_due l = read_statement l
read (cases_due k cases) l = strip (codes "else ") behind_else l
read nothing_due l = None

fixed_is : (t : List ℕ) (c x : CLine) (l : List ℕ) → t ≡ line_text c → last_text t c l ≡ Some x → l ≡ line_text x
fixed_is t c x l e h = let p = last_text_is t c x l h in p.0 ∙ e ∙ ap line_text p.1

read_output_is : (l : List ℕ) (x : CLine) → read_output l ≡ Some x → l ≡ line_text x
read_output_is l x h = elim (or_else_is (read_comment (codes "/* output ") output_comment l) (read_sizes l) x h) [
  | inl y ↦ let p = read_comment_is (codes "/* output ") output_comment l x y in p.1 ∙ ap line_text p.2
  | inr y ↦ let p = read_sizes_is l x y in p.2 ∙ ap line_text p.3
]

read_statement_is : (l : List ℕ) (x : CLine) → read_statement l ≡ Some x → l ≡ line_text x
read_statement_is l x h = elim (or_else_is (read_bit l) (or_else (read_word word_line l) (or_else (read_case first_case l) (or_else (read_out l) (last_text (codes "}") closing l)))) x h) [
  | inl a ↦ let p = read_bit_is l x a in p.2 ∙ ap line_text p.3
  | inr a ↦ elim (or_else_is (read_word word_line l) (or_else (read_case first_case l) (or_else (read_out l) (last_text (codes "}") closing l))) x a) [
    | inl b ↦ let p = read_word_is word_line l x b in p.2 ∙ ap line_text p.3
    | inr b ↦ elim (or_else_is (read_case first_case l) (or_else (read_out l) (last_text (codes "}") closing l)) x b) [
      | inl c ↦ let p = read_case_is first_case l x c in p.2 ∙ ap line_text p.3
      | inr c ↦ elim (or_else_is (read_out l) (last_text (codes "}") closing l) x c) [
        | inl d ↦ let p = read_out_is l x d in p.2 ∙ ap line_text p.3
        | inr d ↦ fixed_is (codes "}") closing x l refl d
      ]
    ]
  ]
]

behind_else_is : (l : List ℕ) (x : CLine) → behind_else l ≡ Some x → codes "else " ++ l ≡ line_text x
behind_else_is l x h = elim (or_else_is (read_case further_case l) (read_word last_case l) x h) [
  | inl y ↦ let p = read_case_is further_case l x y in ap (λ z. codes "else " ++ z) p.2 ∙ ap line_text p.3
  | inr y ↦ let p = read_word_is last_case l x y in ap (λ z. codes "else " ++ z) p.2 ∙ ap line_text p.3
]

pub read_is : (p : CPart) (l : List ℕ) (x : CLine) → read p l ≡ Some x → l ≡ line_text x
read_is opening_due l x h = fixed_is (codes "/* argos-c 1 */") opening x l refl h
read_is inputs_due l x h = elim (or_else_is (read_comment (codes "/* input ") input_comment l) (read_output l) x h) [
  | inl y ↦ let p = read_comment_is (codes "/* input ") input_comment l x y in p.1 ∙ ap line_text p.2
  | inr y ↦ read_output_is l x y
]
read_is outputs_due l x h = read_output_is l x h
read_is init_due l x h = fixed_is (codes "void argos_init(struct argos *m) {") init_head x l refl h
read_is codes_due l x h = elim (or_else_is (read_code l) (last_text (codes "}") closing l) x h) [
  | inl y ↦ let p = read_code_is l x y in p.2 ∙ ap line_text p.3
  | inr y ↦ fixed_is (codes "}") closing x l refl y
]
read_is step_due l x h = fixed_is (codes "void argos_step(struct argos *m, const unsigned int *in, unsigned int *out) {") step_head x l refl h
read_is statements_due l x h = read_statement_is l x h
read_is (cases_due k cases) l x h = let p = strip_is (codes "else ") behind_else l x h in p.1 ∙ behind_else_is p.0 x p.2
read_is nothing_due l x h = cc h

first_wins : {A : Type 0} (o p : Option A) (a : A) → o ≡ Some a → or_else o p ≡ Some a
first_wins o p a h = ap (λ z. or_else z p) h

new_is_name : (s : CStep) (name : Spelled) (b : Bool) → (is_new_name s name && b) ≡ true → is_name name ≡ true
new_is_name s name b h = and_first (is_name name) _ (and_first (is_new_name s name) _ h)

pub read_reads : (p : CPart) (s : CStep) (a : Assigned) (c : CLine) → IsTrue (is_due_at p s a c) → read p (line_text c) ≡ Some c
read_reads opening_due s a opening h = refl
read_reads inputs_due s a (input_comment name) h = first_wins _ _ (input_comment name) (read_comment_reads (codes "/* input ") input_comment name (new_is_name s name _ h))
read_reads inputs_due s a (output_comment name) h = first_wins _ _ (output_comment name) (read_comment_reads (codes "/* output ") output_comment name (new_is_name s name _ h))
read_reads inputs_due s a (array_sizes n m) h = read_sizes_reads n m
read_reads outputs_due s a (output_comment name) h = first_wins _ _ (output_comment name) (read_comment_reads (codes "/* output ") output_comment name (new_is_name s name _ h))
read_reads outputs_due s a (array_sizes n m) h = read_sizes_reads n m
read_reads init_due s a init_head h = refl
read_reads codes_due s a (init_code k c) h = first_wins _ _ (init_code k c) (read_code_reads k c)
read_reads codes_due s a closing h = refl
read_reads step_due s a step_head h = refl
read_reads statements_due s a (bit_line k v) h = first_wins _ _ (bit_line k v) (read_bit_reads s a k v (and_second (nat_lt k s.bits) _ h))
read_reads statements_due s a (word_line k p) h = first_wins _ _ (word_line k p) (read_word_reads word_line k p)
read_reads statements_due s a (first_case k c) h = first_wins _ _ (first_case k c) (read_case_reads first_case k c)
read_reads statements_due s a (out_line j k) h = first_wins _ _ (out_line j k) (read_out_reads j k)
read_reads statements_due s a closing h = refl
read_reads (cases_due k cases) s a (further_case j c) h = first_wins _ _ (further_case j c) (read_case_reads further_case j c)
read_reads (cases_due k cases) s a (last_case j p) h = read_word_reads last_case j p
read_reads p s a c h = cc h

-- no LF
inner_append : (a b : List ℕ) → IsLine a → IsLine b → IsLine (a ++ b)
inner_append a b h e = list_all-append is_inner a b ∙ and_both _ _ h e

all_inner : (p : ℕ → Bool) → ((b : ℕ) → IsTrue (p b) → IsTrue (is_inner b)) → (bs : List ℕ) → IsTrue (list_all p bs) → IsLine bs
all_inner p h [] e = refl
all_inner p h (b ∷ bs) e = and_both _ _ (h b (and_first _ _ e)) (all_inner p h bs (and_second (p b) _ e))

digit_inner : (b : ℕ) → IsTrue (is_ascii_digit b) → IsTrue (is_inner b)
digit_inner b h = grind (arith, nat_tests)

digits_inner : (ds : List ℕ) → is_digits ds ≡ true → IsLine ds
digits_inner [] h = refl
digits_inner (d ∷ ds) h = all_inner is_ascii_digit digit_inner (d ∷ ds) h

numeral_inner : (n : ℕ) → IsLine (numeral n)
numeral_inner n = digits_inner (numeral n) (numeral_digits n)

plain_inner : (w : List ℕ) → IsTrue (list_all (nat_le 33) w) → IsLine w
plain_inner w h = all_inner (nat_le 33) above w h
  where
    above : (b : ℕ) → IsTrue (nat_le 33 b) → IsTrue (is_inner b)
    above b h = grind (arith, nat_tests)

indexed_inner : (array : List ℕ) (k : ℕ) (rest : List ℕ) → IsLine array → IsLine rest → IsLine (indexed array k rest)
indexed_inner array k rest h e = inner_append array (numeral k ++ (codes "]" ++ rest)) h (inner_append (numeral k) (codes "]" ++ rest) (numeral_inner k) e)

word_inner : (k : ℕ) (rest : List ℕ) → IsLine rest → IsLine (word_place k rest)
word_inner k rest h = indexed_inner (codes "m->w[") k rest refl h

literal_inner_at : (k : ℕ) (b : Bool) (rest : List ℕ) → IsLine rest → let l : Literal = record { bit = k; negated = b } in IsLine (literal_then l rest)
literal_inner_at k true rest h = indexed_inner (codes "m->b[") k rest refl h
literal_inner_at k false rest h = indexed_inner (codes "m->b[") k rest refl h

literal_inner : (l : Literal) (rest : List ℕ) → IsLine rest → IsLine (literal_then l rest)
literal_inner l rest h = literal_inner_at l.bit l.negated rest h

literals_inner : (sign : List ℕ) (ls : List Literal) (rest : List ℕ) → IsLine sign → IsLine rest → IsLine (literals_then sign ls rest)
literals_inner sign [] rest h e = e
literals_inner sign (l ∷ ls) rest h e = inner_append sign (literal_then l (literals_then sign ls rest)) h (literal_inner l (literals_then sign ls rest) (literals_inner sign ls rest h e))

joined_inner : (sign : List ℕ) (ls : List Literal) (rest : List ℕ) → IsLine sign → IsLine rest → IsLine (joined_literals sign ls rest)
joined_inner sign [] rest h e = e
joined_inner sign (l ∷ ls) rest h e = literal_inner l (literals_then sign ls rest) (literals_inner sign ls rest h e)

choice_inner : (c : Choice) → IsLine (choice_text c)
choice_inner (code n) = inner_append (numeral n) (codes "u;") (numeral_inner n) refl
choice_inner (word w) = word_inner w (codes ";") refl
choice_inner (next w) = word_inner w (codes " <= 65534u ? " ++ word_place w (codes " + 1u : 0u;")) (word_inner w (codes " + 1u : 0u;") refl)

value_inner : (v : CValue) → IsLine (value_text v)
value_inner (constant true) = refl
value_inner (constant false) = refl
value_inner (each_of ls) = joined_inner (codes " && ") ls (codes ";") refl refl
value_inner (some_of ls) = joined_inner (codes " || ") ls (codes ";") refl refl
value_inner (between w lo hi) =
    inner_append (numeral lo) (codes "u <= " ++ word_place w (codes " && " ++ word_place w (codes " <= " ++ (numeral hi ++ codes "u;")))) (numeral_inner lo)
    (word_inner w (codes " && " ++ word_place w (codes " <= " ++ (numeral hi ++ codes "u;"))) (word_inner w (codes " <= " ++ (numeral hi ++ codes "u;")) (inner_append (numeral hi) (codes "u;") (numeral_inner hi) refl)))
value_inner (digit_of w place) = word_inner w (codes " / " ++ (numeral (2 ^ place) ++ codes "u % 2u;")) (inner_append (numeral (2 ^ place)) (codes "u % 2u;") (numeral_inner (2 ^ place)) refl)
value_inner (input_of j) = indexed_inner (codes "in[") j (codes " != 0u;") refl refl

word_text_inner : (k : ℕ) (p : Choice) → IsLine (word_text k p)
word_text_inner k p = word_inner k (codes " = " ++ choice_text p) (choice_inner p)

case_inner : (k : ℕ) (c : Case) → IsLine (case_text k c)
case_inner k c = literal_inner c.when (codes ") " ++ word_text k c.choice) (word_text_inner k c.choice)

comment_inner : (front : List ℕ) (name : Spelled) → IsLine front → is_name name ≡ true → IsLine (front ++ (name ++ codes " */"))
comment_inner front name h e = inner_append front (name ++ codes " */") h (inner_append name (codes " */") (plain_inner name (name_plain name e)) refl)

due_inner : (p : CPart) (s : CStep) (a : Assigned) (c : CLine) → IsTrue (is_due_at p s a c) → IsLine (line_text c)
due_inner inputs_due s a (input_comment name) h = comment_inner (codes "/* input ") name refl (new_is_name s name _ h)
due_inner inputs_due s a (output_comment name) h = comment_inner (codes "/* output ") name refl (new_is_name s name _ h)
due_inner outputs_due s a (output_comment name) h = comment_inner (codes "/* output ") name refl (new_is_name s name _ h)
due_inner p s a (input_comment name) h = cc h
due_inner p s a (output_comment name) h = cc h
due_inner p s a opening h = refl
due_inner p s a (array_sizes n m) h = inner_append (numeral n) (codes "]; unsigned int b[" ++ (numeral m ++ codes "]; };")) (numeral_inner n) (inner_append (numeral m) (codes "]; };") (numeral_inner m) refl)
due_inner p s a init_head h = refl
due_inner p s a (init_code k c) h = word_text_inner k (code c)
due_inner p s a step_head h = refl
due_inner p s a (bit_line k v) h = indexed_inner (codes "m->b[") k (codes " = " ++ value_text v) refl (value_inner v)
due_inner p s a (word_line k q) h = word_text_inner k q
due_inner p s a (first_case k c) h = case_inner k c
due_inner p s a (further_case k c) h = case_inner k c
due_inner p s a (last_case k q) h = word_text_inner k q
due_inner p s a (out_line j k) h = indexed_inner (codes "out[") j (codes " = " ++ bit_place k (codes ";")) refl (indexed_inner (codes "m->b[") k (codes ";") refl refl)
due_inner p s a closing h = refl

found_at : (t : CStage) (l : List ℕ) (o : Option CLine) → read t.due l ≡ o → Says c_format t l
found_at t l None e = says_nothing (λ c due spelt. let no : Some c ≡ None = sym (read_reads t.due t.step t.assigned c due) ∙ ap (read t.due) (sym spelt) ∙ e in cc no)
found_at t l (Some c) e = elim (true_or_false (is_due_at t.due t.step t.assigned c)) [
  | inl y ↦ says c y (read_is t.due l c e)
  | inr y ↦ says_nothing (λ d due spelt. other d due (some_is d c (sym (read_reads t.due t.step t.assigned d due) ∙ ap (read t.due) (sym spelt) ∙ e)) y)
]
  where
    other : (d : CLine) → IsTrue (is_due_at t.due t.step t.assigned d) → d ≡ c → is_due_at t.due t.step t.assigned c ≡ false → ⊥
    other d due e y = let k : true ≡ false = sym due ∙ ap (λ z. is_due_at t.due t.step t.assigned z) e ∙ y in cc k

pub c_clear : IsClear c_format
c_clear = record {
  inner = λ t c due. due_inner t.due t.step t.assigned c due;
  one = λ t c d due due' e. some_is c d (sym (read_reads t.due t.step t.assigned c due) ∙ ap (read t.due) e ∙ read_reads t.due t.step t.assigned d due');
  found = λ t l. found_at t l (read t.due l) refl;
  ends = λ t c end due. none_at_end t.due t.step t.assigned c end due;
}
  where
    none_at_end : (p : CPart) (s : CStep) (a : Assigned) (c : CLine) → IsTrue (is_finished p) → IsTrue (is_due_at p s a c) → ⊥
    none_at_end nothing_due s a c end due = cc due
    none_at_end p s a c end due = cc end

-- the reading of one line is exact
abbrev pub c_read : CStage → List ℕ → Option CLine
c_read t l = bind (read t.due l) (λ c. only_if (is_due_at t.due t.step t.assigned c) (Some c))

pub c_exact : IsExact c_format c_read
c_exact = record {
  is_said = λ t l c e.
      let p = bind_is (read t.due l) (λ c. only_if (is_due_at t.due t.step t.assigned c) (Some c)) c e in
      let q = only_if_is (is_due_at t.due t.step t.assigned p.0) (Some p.0) c p.2 in
      let same : p.0 ≡ c = some_is p.0 c q.1 in
      (subst (λ z. IsTrue (is_due_at t.due t.step t.assigned z)) same q.0, read_is t.due l p.0 p.1 ∙ ap line_text same);
  said = λ t c due. ap (λ o. bind o (λ c. only_if (is_due_at t.due t.step t.assigned c) (Some c))) (read_reads t.due t.step t.assigned c due) ∙ only_if_true (is_due_at t.due t.step t.assigned c) (Some c) due;
}
