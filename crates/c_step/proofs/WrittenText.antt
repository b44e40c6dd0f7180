-- The parts that are written make the text of the step.
use Rattle.std.proofs.Common.{◌≡◌, ℕ, ◌+◌, List, [], ◌∷◌, ◌++◌, IsTrue, map, refl, sym, ap, ◌∙◌, append_assoc}
use Rattle.std.specs.Prelude.{codes, flat_map}
use Rattle.std.specs.List.{list_all}
use Rattle.argos_base.specs.Names.{Spelled}
use Rattle.argos_base.proofs.Bools.{and_first, and_second, and_both}
use Rattle.eqn_core.specs.Equations.{Choice, code, Case}
use Rattle.line_format.specs.Lines.{lines_then}
use Rattle.line_format.specs.Numerals.{numeral}
use Rattle.c_step.specs.CStep.{CValue, constant, each_of, some_of, between, digit_of, input_of, CStat, set_bit, set_word, set_out, CStep, IsCStep}
use Rattle.c_step.specs.CFile.{CLine, bit_line, out_line, line_text, input_comment, output_comment, array_sizes, init_head, closing, step_head, further_case, last_case, word_text, case_text, c_format, code_lines, statement_lines, c_text, IsCText}
use Rattle.c_step.specs.inner.Ranges.{value_within, statement_within}
use Rattle.c_step.specs.inner.Texts.{comments_text, sizes_text, line_end, codes_text, further_text, cases_text, statement_text, statements_text, small_place, has_small_place}
use Rattle.c_step.proofs.WrittenPieces.{two}

lines-append : (xs ys : List CLine) (rest : List ℕ) → lines_then c_format (xs ++ ys) rest ≡ lines_then c_format xs (lines_then c_format ys rest)
lines-append [] ys rest = refl
lines-append (x ∷ xs) ys rest = ap (λ z. c_format.spelled x ++ 10 ∷ z) (lines-append xs ys rest)

-- a line and what follows
line_more : (l more : List ℕ) → l ++ 10 ∷ more ≡ line_end l ++ more
line_more l more = sym (append_assoc l (10 ∷ []) more)

comment_more : (front name more : List ℕ) → (front ++ (name ++ codes " */")) ++ 10 ∷ more ≡ (front ++ (name ++ codes " */\n")) ++ more
comment_more front name more =
    append_assoc front (name ++ codes " */") (10 ∷ more) ∙ ap (λ z. front ++ z) (append_assoc name (codes " */") (10 ∷ more))
    ∙ sym (append_assoc front (name ++ codes " */\n") more ∙ ap (λ z. front ++ z) (append_assoc name (codes " */\n") more))

comments_lines : (front : List ℕ) (say : Spelled → CLine) → ((name : Spelled) → c_format.spelled (say name) ≡ front ++ (name ++ codes " */")) → (names : List Spelled) (rest : List ℕ) → lines_then c_format (map say names) rest ≡ comments_text front names ++ rest
comments_lines front say h [] rest = refl
comments_lines front say h (name ∷ names) rest =
    ap (λ z. z ++ 10 ∷ lines_then c_format (map say names) rest) (h name) ∙ comment_more front name (lines_then c_format (map say names) rest)
    ∙ ap (λ z. (front ++ (name ++ codes " */\n")) ++ z) (comments_lines front say h names rest) ∙ sym (append_assoc (front ++ (name ++ codes " */\n")) (comments_text front names) rest)

codes_lines : (k : ℕ) (cs rest : List ℕ) → lines_then c_format (code_lines k cs) rest ≡ codes_text k cs ++ rest
codes_lines k [] rest = refl
codes_lines k (c ∷ cs) rest =
    line_more (word_text k (code c)) (lines_then c_format (code_lines (k + 1) cs) rest)
    ∙ ap (λ z. line_end (word_text k (code c)) ++ z) (codes_lines (k + 1) cs rest)
    ∙ sym (append_assoc (line_end (word_text k (code c))) (codes_text (k + 1) cs) rest)

further_lines : (k : ℕ) (cases : List Case) (other : Choice) (rest : List ℕ) → lines_then c_format (map (further_case k) cases ++ last_case k other ∷ []) rest ≡ (further_text k cases ++ (codes "else " ++ line_end (word_text k other))) ++ rest
further_lines k [] other rest = ap (λ z. codes "else " ++ z) (line_more (word_text k other) rest)
further_lines k (c ∷ cases) other rest =
    let last : List ℕ = codes "else " ++ line_end (word_text k other) in
    let piece : List ℕ = codes "else " ++ line_end (case_text k c) in
    ap (λ z. codes "else " ++ z) (line_more (case_text k c) (lines_then c_format (map (further_case k) cases ++ last_case k other ∷ []) rest))
    ∙ ap (λ z. piece ++ z) (further_lines k cases other rest ∙ append_assoc (further_text k cases) last rest)
    ∙ sym (append_assoc piece (further_text k cases) (last ++ rest)) ∙ sym (append_assoc (piece ++ further_text k cases) last rest)

cases_lines : (k : ℕ) (cases : List Case) (other : Choice) (rest : List ℕ) → lines_then c_format (statement_lines (set_word k cases other)) rest ≡ cases_text k cases other ++ rest
cases_lines k [] other rest = line_more (word_text k other) rest
cases_lines k (c ∷ cases) other rest =
    let others : List ℕ = further_text k cases ++ (codes "else " ++ line_end (word_text k other)) in
    line_more (case_text k c) (lines_then c_format (map (further_case k) cases ++ last_case k other ∷ []) rest)
    ∙ ap (λ z. line_end (case_text k c) ++ z) (further_lines k cases other rest) ∙ sym (append_assoc (line_end (case_text k c)) others rest)

statement_line : (x : CStat) (rest : List ℕ) → lines_then c_format (statement_lines x) rest ≡ statement_text x ++ rest
statement_line (set_bit k v) rest = line_more (line_text (bit_line k v)) rest
statement_line (set_word k cases other) rest = cases_lines k cases other rest
statement_line (set_out j k) rest = line_more (line_text (out_line j k)) rest

statements_lines : (xs : List CStat) (rest : List ℕ) → lines_then c_format (flat_map statement_lines xs) rest ≡ statements_text xs ++ rest
statements_lines [] rest = refl
statements_lines (x ∷ xs) rest =
    lines-append (statement_lines x) (flat_map statement_lines xs) rest ∙ statement_line x (lines_then c_format (flat_map statement_lines xs) rest)
    ∙ ap (λ z. statement_text x ++ z) (statements_lines xs rest) ∙ sym (append_assoc (statement_text x) (statements_text xs) rest)

sizes_more : (n m : ℕ) (more : List ℕ) → c_format.spelled (array_sizes n m) ++ 10 ∷ more ≡ sizes_text n m ++ more
sizes_more n m more =
    ap (λ z. codes "struct argos { unsigned int w[" ++ z) (append_assoc (numeral n) (codes "]; unsigned int b[" ++ (numeral m ++ codes "]; };")) (10 ∷ more) ∙ ap (λ z. numeral n ++ (codes "]; unsigned int b[" ++ z)) (append_assoc (numeral m) (codes "]; };") (10 ∷ more)))
    ∙ sym (ap (λ z. codes "struct argos { unsigned int w[" ++ z) (append_assoc (numeral n) (codes "]; unsigned int b[" ++ (numeral m ++ codes "]; };\n")) more ∙ ap (λ z. numeral n ++ (codes "]; unsigned int b[" ++ z)) (append_assoc (numeral m) (codes "]; };\n") more)))

abbrev first_head : List ℕ
first_head = codes "void argos_init(struct argos *m) {\n"

abbrev second_head : List ℕ
second_head = codes "}\nvoid argos_step(struct argos *m, const unsigned int *in, unsigned int *out) {\n"

-- the text of a step, part by part
abbrev parts_text : CStep → List ℕ
parts_text s =
    codes "/* argos-c 1 */\n"
    ++ (comments_text (codes "/* input ") s.names.inputs
    ++ (comments_text (codes "/* output ") s.names.outputs
    ++ (sizes_text s.words s.bits ++ (first_head ++ (codes_text 0 s.initial ++ (second_head ++ (statements_text s.statements ++ codes "}\n")))))))

text_is : (s : CStep) → c_text s ≡ parts_text s
text_is s =
    let tail₄ : List CLine = flat_map statement_lines s.statements ++ closing ∷ [] in
    let tail₃ : List CLine = closing ∷ step_head ∷ tail₄ in
    let tail₂ : List CLine = array_sizes s.words s.bits ∷ init_head ∷ code_lines 0 s.initial ++ tail₃ in
    let tail₁ : List CLine = map output_comment s.names.outputs ++ tail₂ in
    let ends : lines_then c_format tail₄ [] ≡ statements_text s.statements ++ codes "}\n" = lines-append (flat_map statement_lines s.statements) (closing ∷ []) [] ∙ statements_lines s.statements (codes "}\n") in
    let registers : lines_then c_format (code_lines 0 s.initial ++ tail₃) [] ≡ codes_text 0 s.initial ++ (second_head ++ (statements_text s.statements ++ codes "}\n")) =
    lines-append (code_lines 0 s.initial) tail₃ [] ∙ codes_lines 0 s.initial (lines_then c_format tail₃ []) ∙ ap (λ z. codes_text 0 s.initial ++ (second_head ++ z)) ends in
    let sizes : lines_then c_format tail₂ [] ≡ sizes_text s.words s.bits ++ (first_head ++ (codes_text 0 s.initial ++ (second_head ++ (statements_text s.statements ++ codes "}\n")))) =
    sizes_more s.words s.bits (lines_then c_format (init_head ∷ code_lines 0 s.initial ++ tail₃) []) ∙ ap (λ z. sizes_text s.words s.bits ++ (first_head ++ z)) registers in
    let outputs : lines_then c_format tail₁ [] ≡ comments_text (codes "/* output ") s.names.outputs ++ (sizes_text s.words s.bits ++ (first_head ++ (codes_text 0 s.initial ++ (second_head ++ (statements_text s.statements ++ codes "}\n"))))) =
    lines-append (map output_comment s.names.outputs) tail₂ [] ∙ comments_lines (codes "/* output ") output_comment (λ name. refl) s.names.outputs (lines_then c_format tail₂ []) ∙ ap (λ z. comments_text (codes "/* output ") s.names.outputs ++ z) sizes in
    ap (λ z. codes "/* argos-c 1 */\n" ++ z)
    (lines-append (map input_comment s.names.inputs) tail₁ [] ∙ comments_lines (codes "/* input ") input_comment (λ name. refl) s.names.inputs (lines_then c_format tail₁ []) ∙ ap (λ z. comments_text (codes "/* input ") s.names.inputs ++ z) outputs)

-- what is written is the text
pub written_is_text : (s : CStep) (t₀ t₁ t₂ t₃ t₄ t₅ t₆ t₇ t₈ : List ℕ) → IsCStep s → t₀ ≡ codes "/* argos-c 1 */\n" → t₁ ≡ t₀ ++ comments_text (codes "/* input ") s.names.inputs → t₂ ≡ t₁ ++ comments_text (codes "/* output ") s.names.outputs → t₃ ≡ t₂ ++ sizes_text s.words s.bits
    → t₄ ≡ t₃ ++ codes "void argos_init(struct argos *m) {\n" → t₅ ≡ t₄ ++ codes_text 0 s.initial → t₆ ≡ t₅ ++ codes "}\nvoid argos_step(struct argos *m, const unsigned int *in, unsigned int *out) {\n" → t₇ ≡ t₆ ++ statements_text s.statements → t₈ ≡ t₇ ++ codes "}\n" → IsCText t₈ s
written_is_text s t₀ t₁ t₂ t₃ t₄ t₅ t₆ t₇ t₈ h e₀ e₁ e₂ e₃ e₄ e₅ e₆ e₇ e₈ =
    let x₈ : List ℕ = codes "}\n" in
    let x₇ : List ℕ = statements_text s.statements ++ x₈ in
    let x₆ : List ℕ = second_head ++ x₇ in
    let x₅ : List ℕ = codes_text 0 s.initial ++ x₆ in
    let x₄ : List ℕ = first_head ++ x₅ in
    let x₃ : List ℕ = sizes_text s.words s.bits ++ x₄ in
    let x₂ : List ℕ = comments_text (codes "/* output ") s.names.outputs ++ x₃ in
    let whole : t₈ ≡ t₀ ++ (comments_text (codes "/* input ") s.names.inputs ++ x₂) =
    two t₀ t₁ t₈ (comments_text (codes "/* input ") s.names.inputs) x₂ e₁
    (two t₁ t₂ t₈ (comments_text (codes "/* output ") s.names.outputs) x₃ e₂
    (two t₂ t₃ t₈ (sizes_text s.words s.bits) x₄ e₃ (two t₃ t₄ t₈ first_head x₅ e₄ (two t₄ t₅ t₈ (codes_text 0 s.initial) x₆ e₅ (two t₅ t₆ t₈ second_head x₇ e₆ (two t₆ t₇ t₈ (statements_text s.statements) x₈ e₇ e₈)))))) in
    record { step = h; text = whole ∙ ap (λ z. z ++ (comments_text (codes "/* input ") s.names.inputs ++ x₂)) e₀ ∙ sym (text_is s) }

-- the places of digits are small in what names what exists
small_place_within : (i w b : ℕ) (v : CValue) → IsTrue (value_within i w b v) → IsTrue (small_place v)
small_place_within i w b (constant c) h = refl
small_place_within i w b (each_of ls) h = refl
small_place_within i w b (some_of ls) h = refl
small_place_within i w b (between k lo hi) h = refl
small_place_within i w b (digit_of k place) h = and_second _ _ h
small_place_within i w b (input_of j) h = refl

has_small_place_within : (i o w b : ℕ) (x : CStat) → IsTrue (statement_within i o w b x) → IsTrue (has_small_place x)
has_small_place_within i o w b (set_bit k v) h = small_place_within i w b v (and_second _ _ h)
has_small_place_within i o w b (set_word k cases other) h = refl
has_small_place_within i o w b (set_out j k) h = refl

pub small_places : (i o w b : ℕ) (xs : List CStat) → IsTrue (list_all (statement_within i o w b) xs) → IsTrue (list_all has_small_place xs)
small_places i o w b [] h = refl
small_places i o w b (x ∷ xs) h = and_both _ _ (has_small_place_within i o w b x (and_first _ _ h)) (small_places i o w b xs (and_second (statement_within i o w b x) _ h))
