-- Words with one space between two: the bytes tell the words.
use Rattle.std.proofs.Common.{◌≡◌, ℕ, List, [], ◌∷◌, ◌++◌, Bool, true, false, cond, Option, Some, None, IsTrue, refl, sym, ap, ◌∙◌, arith, map, inl, inr}
use Rattle.std.specs.Prelude.{nat_eq, nat_le, codes}
use Rattle.std.specs.List.{list_all}
use Rattle.std.proofs.lemmas.List.Folds.{list_all-append}
use Rattle.std.proofs.lemmas.Bool.Decides.{nat_tests}
use Rattle.argos_base.specs.Names.{Spelled}
use Rattle.argos_base.proofs.Bools.{and_first, and_second, and_both, true_or_false}
use Rattle.eqn_core.specs.Equations.{Literal, Choice, code, word, next, Case, Line, all, any, within, digit, choose}
use Rattle.line_format.specs.Numerals.{numeral}
use Rattle.eqn_file.specs.EquationFile.{spaced, FileLine, head, input_count, input_name, output_count, output_name, register_count, a_code, line_count, a_line, an_out, a_next, the_end, literal_text, choice_words, chain_words, line_words, words_of, Part, head_due, inputs_due, outputs_due, registers_due, lines_due, end_due, nothing_due, input_name_due, output_name_due, code_due, line_due, out_due, next_due, is_due_line, is_nothing_due, Stage, equation_format}
use Rattle.line_format.proofs.PlainBytes.{is_plain, plain_inner, name_plain, numeral_plain}
use Rattle.line_format.specs.Lines.{is_inner, IsLine, Says, says, says_nothing, IsClear}
use Rattle.line_format.proofs.Options.{some_is}
use Rattle.line_format.proofs.Answering.{IsExact}
use Rattle.eqn_file.specs.inner.Words.{on_first, split}
use Rattle.eqn_file.specs.inner.WordReading.{read}
use Rattle.eqn_file.proofs.EquationReader.{read_is, read_reads}

abbrev ArePlain : List Spelled → Type 0
ArePlain ws = IsTrue (list_all is_plain ws)

pub data IsSome (ws : List Spelled) : Type 0 where
  first : (w : Spelled) (more : List Spelled) → ws ≡ w ∷ more → IsSome ws

some_cond : (t : Bool) (a b : List Spelled) → IsSome a → IsSome b → IsSome (cond t a b)
some_cond true a b h k = h
some_cond false a b h k = k

some_on_first : (b : ℕ) (ws : List Spelled) → IsSome (on_first b ws)
some_on_first b [] = first (b ∷ []) [] refl
some_on_first b (w ∷ ws) = first (b ∷ w) ws refl

pub split_some : (bs : List ℕ) → IsSome (split bs)
split_some [] = first [] [] refl
split_some (b ∷ bs) = some_cond (nat_eq b 32) ([] ∷ split bs) (on_first b (split bs)) (first [] (split bs) refl) (some_on_first b (split bs))

spaced_space : (ws : List Spelled) → IsSome ws → spaced ([] ∷ ws) ≡ 32 ∷ spaced ws
spaced_space [] (first w more e) = cc e
spaced_space (w ∷ ws) h = refl

spaced_first : (b : ℕ) (ws : List Spelled) → IsSome ws → spaced (on_first b ws) ≡ b ∷ spaced ws
spaced_first b [] (first w more e) = cc e
spaced_first b (w ∷ []) h = refl
spaced_first b (w ∷ v ∷ ws) h = refl

same_byte : (b k : ℕ) → nat_eq b k ≡ true → b ≡ k
same_byte b k h = grind (arith, nat_tests)

-- the words, spaced, are the bytes
pub spaced_split : (bs : List ℕ) → spaced (split bs) ≡ bs
spaced_split [] = refl
spaced_split (b ∷ bs) = elim (true_or_false (nat_eq b 32)) [
  | inl y ↦ ap (λ t. spaced (cond t ([] ∷ split bs) (on_first b (split bs)))) y ∙ spaced_space (split bs) (split_some bs) ∙ ap (λ z. z ∷ spaced (split bs)) (sym (same_byte b 32 y)) ∙ ap (λ z. b ∷ z) (spaced_split bs)
  | inr y ↦ ap (λ t. spaced (cond t ([] ∷ split bs) (on_first b (split bs)))) y ∙ spaced_first b (split bs) (split_some bs) ∙ ap (λ z. b ∷ z) (spaced_split bs)
]

no_space : (b : ℕ) → IsTrue (nat_le 33 b) → nat_eq b 32 ≡ false
no_space b h = grind (arith, nat_tests)

-- a plain word, and then the end or a space
pub split_word : (w : Spelled) → IsTrue (is_plain w) → split w ≡ w ∷ []
split_word [] h = refl
split_word (b ∷ w) h = ap (λ t. cond t ([] ∷ split w) (on_first b (split w))) (no_space b (and_first _ _ h)) ∙ ap (λ z. on_first b z) (split_word w (and_second (nat_le 33 b) _ h))

pub split_word_then : (w : Spelled) (bs : List ℕ) → IsTrue (is_plain w) → split (w ++ 32 ∷ bs) ≡ w ∷ split bs
split_word_then [] bs h = refl
split_word_then (b ∷ w) bs h =
    ap (λ t. cond t ([] ∷ split (w ++ 32 ∷ bs)) (on_first b (split (w ++ 32 ∷ bs)))) (no_space b (and_first _ _ h)) ∙ ap (λ z. on_first b z) (split_word_then w bs (and_second (nat_le 33 b) _ h))

-- the bytes of plain words tell the words
pub split_spaced : (ws : List Spelled) → IsSome ws → ArePlain ws → split (spaced ws) ≡ ws
split_spaced [] (first w more e) h = cc e
split_spaced (w ∷ []) s h = split_word w (and_first _ _ h)
split_spaced (w ∷ v ∷ ws) s h = split_word_then w (spaced (v ∷ ws)) (and_first _ _ h) ∙ ap (λ z. w ∷ z) (split_spaced (v ∷ ws) (first v ws refl) (and_second (is_plain w) _ h))

spaced_inner : (ws : List Spelled) → ArePlain ws → IsLine (spaced ws)
spaced_inner [] h = refl
spaced_inner (w ∷ []) h = plain_inner w (and_first _ _ h)
spaced_inner (w ∷ v ∷ ws) h =
    list_all-append is_inner w (32 ∷ spaced (v ∷ ws)) ∙ and_both _ _ (plain_inner w (and_first _ _ h)) (spaced_inner (v ∷ ws) (and_second (is_plain w) _ h))

one_plain : (w : Spelled) → IsTrue (is_plain w) → ArePlain (w ∷ [])
one_plain w h = and_both (is_plain w) true h refl

keyword_number : (k : Spelled) (n : ℕ) → IsTrue (is_plain k) → ArePlain (k ∷ numeral n ∷ [])
keyword_number k n h = and_both _ _ h (one_plain (numeral n) (numeral_plain n))

literal_plain : (l : Literal) → IsTrue (is_plain (literal_text l))
literal_plain l = and_both _ _ (sign_plain l.negated) (numeral_plain l.bit)
  where
    sign_plain : (b : Bool) → IsTrue (nat_le 33 (cond b 45 43))
    sign_plain true = refl
    sign_plain false = refl

literals_plain : (ls : List Literal) → ArePlain (map literal_text ls)
literals_plain [] = refl
literals_plain (l ∷ ls) = and_both _ _ (literal_plain l) (literals_plain ls)

choice_plain : (c : Choice) → ArePlain (choice_words c)
choice_plain (code n) = keyword_number (codes "code") n refl
choice_plain (word n) = keyword_number (codes "word") n refl
choice_plain (next n) = keyword_number (codes "next") n refl

chain_plain : (cases : List Case) (other : Choice) → ArePlain (chain_words cases other)
chain_plain [] other = choice_plain other
chain_plain (c ∷ cases) other =
    and_both _ _ (literal_plain c.when) (list_all-append is_plain (choice_words c.choice) (chain_words cases other) ∙ and_both _ _ (choice_plain c.choice) (chain_plain cases other))

line_plain : (l : Line) → ArePlain (line_words l)
line_plain (all ls) = literals_plain ls
line_plain (any ls) = literals_plain ls
line_plain (within w lo hi) = and_both _ _ (numeral_plain w) (and_both _ _ (numeral_plain lo) (one_plain (numeral hi) (numeral_plain hi)))
line_plain (digit w place) = and_both _ _ (numeral_plain w) (one_plain (numeral place) (numeral_plain place))
line_plain (choose cases other) = chain_plain cases other

words_plain : (p : Part) (l : FileLine) → IsTrue (is_due_line p l) → ArePlain (words_of l)
words_plain head_due head h = refl
words_plain inputs_due (input_count n) h = keyword_number (codes "inputs") n refl
words_plain (input_name_due k) (input_name name) h = one_plain name (name_plain name h)
words_plain outputs_due (output_count n) h = keyword_number (codes "outputs") n refl
words_plain (output_name_due k) (output_name name) h = one_plain name (name_plain name h)
words_plain registers_due (register_count n) h = keyword_number (codes "registers") n refl
words_plain (code_due k) (a_code c) h = one_plain (numeral c) (numeral_plain c)
words_plain lines_due (line_count n) h = keyword_number (codes "lines") n refl
words_plain (line_due k) (a_line l) h = line_plain l
words_plain (out_due k) (an_out b) h = keyword_number (codes "out") b refl
words_plain (next_due k) (a_next w) h = keyword_number (codes "next") w refl
words_plain end_due the_end h = refl
words_plain p l h = cc h

words_some : (l : FileLine) → IsSome (words_of l)
words_some head = first _ _ refl
words_some (input_count n) = first _ _ refl
words_some (input_name name) = first _ _ refl
words_some (output_count n) = first _ _ refl
words_some (output_name name) = first _ _ refl
words_some (register_count n) = first _ _ refl
words_some (a_code c) = first _ _ refl
words_some (line_count n) = first _ _ refl
words_some (a_line (all ls)) = first _ _ refl
words_some (a_line (any ls)) = first _ _ refl
words_some (a_line (within w lo hi)) = first _ _ refl
words_some (a_line (digit w place)) = first _ _ refl
words_some (a_line (choose cases other)) = first _ _ refl
words_some (an_out b) = first _ _ refl
words_some (a_next w) = first _ _ refl
words_some the_end = first _ _ refl

-- what a due line's bytes are read as
line_read : (p : Part) (l : FileLine) → IsTrue (is_due_line p l) → read p (split (spaced (words_of l))) ≡ Some l
line_read p l h = ap (read p) (split_spaced (words_of l) (words_some l) (words_plain p l h)) ∙ read_reads p l h

found_at : (s : Stage) (bs : List ℕ) (o : Option FileLine) → read s.due (split bs) ≡ o → Says equation_format s bs
found_at s bs (Some l) e = let p = read_is s.due (split bs) l e in says l p.0 (sym (spaced_split bs) ∙ ap spaced p.1)
found_at s bs None e = says_nothing (λ l due spelt. let no : Some l ≡ None = sym (line_read s.due l due) ∙ ap (λ z. read s.due (split z)) (sym spelt) ∙ e in cc no)

pub equation_clear : IsClear equation_format
equation_clear = record {
  inner = λ s l due. spaced_inner (words_of l) (words_plain s.due l due);
  one = λ s l k due due' e. some_is l k (sym (line_read s.due l due) ∙ ap (λ z. read s.due (split z)) e ∙ line_read s.due k due');
  found = λ s bs. found_at s bs (read s.due (split bs)) refl;
  ends = λ s l end due. none_at_end s.due l end due;
}
  where
    none_at_end : (p : Part) (l : FileLine) → IsTrue (is_nothing_due p) → IsTrue (is_due_line p l) → ⊥
    none_at_end nothing_due l end due = cc due
    none_at_end p l end due = cc end

-- the reading of one line is exact
abbrev pub equation_read : Stage → List ℕ → Option FileLine
equation_read s l = read s.due (split l)

pub equation_exact : IsExact equation_format equation_read
equation_exact = record {
  is_said = λ s l c e. let p = read_is s.due (split l) c e in (p.0, sym (spaced_split l) ∙ ap spaced p.1);
  said = λ s c due. line_read s.due c due;
}
