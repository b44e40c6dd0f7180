-- The statements of lines fill the arrays with the values of the lines.
use Rattle.std.proofs.Common.{◌≡◌, ℕ, zero, suc, ◌+◌, ◌<◌, ◌≤◌, List, [], ◌∷◌, ◌++◌, Bool, true, false, ◌&&◌, ◌||◌, not, inl, inr, cond, IsTrue, length, drop, get_or, set, refl, sym, ap, ◌∙◌, subst, append_assoc, length-append, arith}
use Rattle.std.specs.Prelude.{nat_lt, nat_le}
use Rattle.std.specs.List.{list_all}
use Rattle.std.proofs.Math.Seq.{set-append_seam}
use Rattle.std.proofs.lemmas.List.{append-nil, drop-drop, get_or_append_left}
use Rattle.std.proofs.lemmas.Bool.Decides.{nat_tests}
use Rattle.argos_base.specs.SignalSets.{SignalSet}
use Rattle.argos_base.proofs.Bools.{and_first, and_second, and_both, true_or_false}
use Rattle.eqn_core.specs.Equations.{Literal, Choice, code, word, next, Case, Line, all, any, within, digit, choose, bits_of_line, words_of_line, bit_lines, word_lines}
use Rattle.eqn_core.specs.Ordered.{literal_below, choice_below, case_below, line_below, all_below}
use Rattle.eqn_core.specs.inner.OrderTest.{lines_in_order}
use Rattle.eqn_core.specs.Solutions.{Values, is_true, next_code, value_of, word_of, chosen_value, defined_bits, defined_words}
use Rattle.eqn_core.proofs.Agreement.{longer, defined_bits-longer}
use Rattle.eqn_core.proofs.Evaluation.{grown, evaluated}
use Rattle.c_step.specs.CRuns.{Arrays, literal_value, one_more, choice_value, chain_value, done, all_done}
use Rattle.c_emit.specs.COf.{line_statement, line_statements}

abbrev pub arrays : List ℕ → List Bool → List Bool → Arrays
arrays w b o = record { words = w; bits = b; outs = o }

-- arrays that begin with these values
abbrev pub filled : Values → List Bool → List ℕ → List Bool → Arrays
filled s x y o = arrays (s.words ++ y) (s.bits ++ x) o

abbrev pub Small : List ℕ → Type 0
Small ws = IsTrue (all_below 65536 ws)

pub below : (k n : ℕ) → IsTrue (nat_lt k n) → k < n
below k n h = grind (arith, nat_tests)

pub below_test : (k n : ℕ) → k < n → IsTrue (nat_lt k n)
below_test k n h = grind (arith, nat_tests)

small_code : (n : ℕ) → IsTrue (nat_le n 65535) → n < 65536
small_code n h = grind (arith, nat_tests)

pub small_at : (ws : List ℕ) (k : ℕ) → Small ws → get_or ws k 0 < 65536
small_at [] k h = omega arith
small_at (w ∷ ws) zero h = below _ _ (and_first _ _ h)
small_at (w ∷ ws) (suc k) h = small_at ws k (and_second (nat_lt w 65536) _ h)

pub small_append : (ws vs : List ℕ) → Small ws → Small vs → Small (ws ++ vs)
small_append [] vs h k = k
small_append (w ∷ ws) vs h k = and_both _ _ (and_first _ _ h) (small_append ws vs (and_second (nat_lt w 65536) _ h) k)

one_more-same : (n : ℕ) → n < 65536 → one_more n ≡ next_code n
one_more-same n h = grind (arith, nat_tests)

next_code-small : (n : ℕ) → n < 65536 → next_code n < 65536
next_code-small n h = grind (arith, nat_tests)

pub value_of-small : (s : Values) (c : Choice) → Small s.words → IsTrue (choice_below (length s.words) c) → value_of s c < 65536
value_of-small s (code n) h e = small_code n e
value_of-small s (word k) h e = small_at s.words k h
value_of-small s (next k) h e = next_code-small (word_of s k) (small_at s.words k h)

pub chosen-small : (s : Values) (cases : List Case) (other : Choice) → Small s.words → IsTrue (list_all (case_below (length s.bits) (length s.words)) cases) → IsTrue (choice_below (length s.words) other) → chosen_value s cases other < 65536
chosen-small s [] other h e f = value_of-small s other h f
chosen-small s (c ∷ cases) other h e f =
    let first : IsTrue (case_below (length s.bits) (length s.words) c) = and_first _ _ e in
    elim (true_or_false (is_true s c.when)) [
      | inl y ↦ rw y (value_of-small s c.choice h (and_second (literal_below (length s.bits) c.when) _ first))
      | inr y ↦ rw y (chosen-small s cases other h (and_second (case_below (length s.bits) (length s.words) c) _ e) f)
    ]

-- what is read below the known values
literal_agrees : (s : Values) (x : List Bool) (y : List ℕ) (o : List Bool) (l : Literal) → IsTrue (literal_below (length s.bits) l) → literal_value (filled s x y o) l ≡ is_true s l
literal_agrees s x y o l h = ap (λ (b : Bool). cond l.negated (not b) b) (get_or_append_left s.bits x false l.bit (below _ _ h))

word_agrees : (s : Values) (y : List ℕ) (k : ℕ) → IsTrue (nat_lt k (length s.words)) → get_or (s.words ++ y) k 0 ≡ word_of s k
word_agrees s y k h = get_or_append_left s.words y 0 k (below _ _ h)

choice_agrees : (s : Values) (x : List Bool) (y : List ℕ) (o : List Bool) (c : Choice) → Small s.words → IsTrue (choice_below (length s.words) c) → choice_value (filled s x y o) c ≡ value_of s c
choice_agrees s x y o (code n) small h = refl
choice_agrees s x y o (word k) small h = word_agrees s y k h
choice_agrees s x y o (next k) small h = ap one_more (word_agrees s y k h) ∙ one_more-same (word_of s k) (small_at s.words k small)

chain_agrees : (s : Values) (x : List Bool) (y : List ℕ) (o : List Bool) (cases : List Case) (other : Choice) → Small s.words → IsTrue (list_all (case_below (length s.bits) (length s.words)) cases) → IsTrue (choice_below (length s.words) other)
    → chain_value (filled s x y o) cases other ≡ chosen_value s cases other
chain_agrees s x y o [] other small h e = choice_agrees s x y o other small e
chain_agrees s x y o (c ∷ cases) other small h e =
    let a : Arrays = filled s x y o in
    let first : IsTrue (case_below (length s.bits) (length s.words) c) = and_first _ _ h in
    let rest : IsTrue (list_all (case_below (length s.bits) (length s.words)) cases) = and_second (case_below (length s.bits) (length s.words) c) _ h in
    let when : literal_value a c.when ≡ is_true s c.when = literal_agrees s x y o c.when (and_first _ _ first) in
    let picked : choice_value a c.choice ≡ value_of s c.choice = choice_agrees s x y o c.choice small (and_second (literal_below (length s.bits) c.when) _ first) in
    let others : chain_value a cases other ≡ chosen_value s cases other = chain_agrees s x y o cases other small rest e in
    ap (λ (b : Bool). cond b (choice_value a c.choice) (chain_value a cases other)) when
    ∙ ap (λ (n : ℕ). cond (is_true s c.when) n (chain_value a cases other)) picked
    ∙ ap (λ (n : ℕ). cond (is_true s c.when) (value_of s c.choice) n) others

-- the place behind a front is set
pub set_here : {A : Type 0} (front x : List A) (u : A) → 1 ≤ length x → set (front ++ x) (length front) u ≡ (front ++ u ∷ []) ++ drop 1 x
set_here front [] u h = absurd (omega arith)
set_here front (v ∷ x) u h = set-append_seam front v x u ∙ sym (append_assoc front (u ∷ []) x)

bit_set : (s : Values) (l : Line) (x : List Bool) (y : List ℕ) (o : List Bool) (u : Bool) → defined_bits (longer s x y) l ≡ u ∷ [] → defined_words s l ≡ [] → IsTrue (line_below (length s.bits) (length s.words) l) → 1 ≤ length x
    → arrays (s.words ++ y) (set (s.bits ++ x) (length s.bits) u) o ≡ filled (grown s l) (drop 1 x) y o
bit_set s l x y o u e f reads room =
    let here : u ∷ [] ≡ defined_bits s l = sym e ∙ defined_bits-longer s x y l reads in
    ap (λ (b : List Bool). arrays (s.words ++ y) b o) (set_here s.bits x u room)
    ∙ ap (λ (b : List Bool). arrays (s.words ++ y) ((s.bits ++ b) ++ drop 1 x) o) here
    ∙ ap (λ (w : List ℕ). arrays (w ++ y) ((s.bits ++ defined_bits s l) ++ drop 1 x) o) (sym (append-nil s.words))
    ∙ ap (λ (w : List ℕ). arrays ((s.words ++ w) ++ y) ((s.bits ++ defined_bits s l) ++ drop 1 x) o) (sym f)

pub line_done : (i : SignalSet) (s : Values) (l : Line) (x : List Bool) (y : List ℕ) (o : List Bool) → IsTrue (line_below (length s.bits) (length s.words) l) → Small s.words → bits_of_line l ≤ length x → words_of_line l ≤ length y
    → done i (line_statement (length s.bits) (length s.words) l) (filled s x y o) ≡ filled (grown s l) (drop (bits_of_line l) x) (drop (words_of_line l) y) o
line_done i s (all []) x y o reads small b w = bit_set s (all []) x y o true refl refl reads b
line_done i s (all (l ∷ ls)) x y o reads small b w = bit_set s (all (l ∷ ls)) x y o (list_all (is_true (longer s x y)) (l ∷ ls)) refl refl reads b
line_done i s (any []) x y o reads small b w = bit_set s (any []) x y o false refl refl reads b
line_done i s (any (l ∷ [])) x y o reads small b w = bit_set s (any (l ∷ [])) x y o (list_all (is_true (longer s x y)) (l ∷ [])) (ap (λ (v : Bool). v ∷ []) (one_literal (is_true (longer s x y) l))) refl reads b
  where
    one_literal : (v : Bool) → (v || false) ≡ (v && true)
    one_literal true = refl
    one_literal false = refl
line_done i s (any (l ∷ k ∷ ls)) x y o reads small b w = bit_set s (any (l ∷ k ∷ ls)) x y o _ refl refl reads b
line_done i s (within k lo hi) x y o reads small b w = bit_set s (within k lo hi) x y o _ refl refl reads b
line_done i s (digit k place) x y o reads small b w = bit_set s (digit k place) x y o _ refl refl reads b
line_done i s (choose cases other) x y o reads small b w =
    let value : chain_value (filled s x y o) cases other ≡ chosen_value s cases other = chain_agrees s x y o cases other small (and_first _ _ reads) (and_second (list_all (case_below (length s.bits) (length s.words)) cases) _ reads) in
    ap (λ (v : ℕ). arrays (set (s.words ++ y) (length s.words) v) (s.bits ++ x) o) value
    ∙ ap (λ (z : List ℕ). arrays z (s.bits ++ x) o) (set_here s.words y (chosen_value s cases other) w)
    ∙ ap (λ (z : List Bool). arrays ((s.words ++ chosen_value s cases other ∷ []) ++ drop 1 y) (z ++ x) o) (sym (append-nil s.bits))

-- lengths of grown and evaluated values
length-defined_bits : (s : Values) (l : Line) → length (defined_bits s l) ≡ bits_of_line l
length-defined_bits s (all ls) = refl
length-defined_bits s (any ls) = refl
length-defined_bits s (within w lo hi) = refl
length-defined_bits s (digit w place) = refl
length-defined_bits s (choose cases other) = refl

length-defined_words : (s : Values) (l : Line) → length (defined_words s l) ≡ words_of_line l
length-defined_words s (all ls) = refl
length-defined_words s (any ls) = refl
length-defined_words s (within w lo hi) = refl
length-defined_words s (digit w place) = refl
length-defined_words s (choose cases other) = refl

bits-grown : (s : Values) (l : Line) → length s.bits + bits_of_line l ≡ length (grown s l).bits
bits-grown s l = ap (λ (n : ℕ). length s.bits + n) (sym (length-defined_bits s l)) ∙ sym (length-append s.bits (defined_bits s l))

words-grown : (s : Values) (l : Line) → length s.words + words_of_line l ≡ length (grown s l).words
words-grown s l = ap (λ (n : ℕ). length s.words + n) (sym (length-defined_words s l)) ∙ sym (length-append s.words (defined_words s l))

order-rest : (l : Line) (lines : List Line) (s : Values) → IsTrue (lines_in_order (length s.bits) (length s.words) (l ∷ lines)) → IsTrue (lines_in_order (length (grown s l).bits) (length (grown s l).words) lines)
order-rest l lines s h =
    let rest : IsTrue (lines_in_order (length s.bits + bits_of_line l) (length s.words + words_of_line l) lines) = and_second (line_below (length s.bits) (length s.words) l) _ h in
    subst (λ (k : ℕ). IsTrue (lines_in_order k (length (grown s l).words) lines)) (bits-grown s l) (subst (λ (k : ℕ). IsTrue (lines_in_order (length s.bits + bits_of_line l) k lines)) (words-grown s l) rest)

grown-small : (s : Values) (l : Line) → Small s.words → IsTrue (line_below (length s.bits) (length s.words) l) → Small (grown s l).words
grown-small s (all ls) h e = small_append s.words [] h refl
grown-small s (any ls) h e = small_append s.words [] h refl
grown-small s (within w lo hi) h e = small_append s.words [] h refl
grown-small s (digit w place) h e = small_append s.words [] h refl
grown-small s (choose cases other) h e =
    small_append s.words (chosen_value s cases other ∷ []) h (and_both _ _ (below_test _ _ (chosen-small s cases other h (and_first _ _ e) (and_second (list_all (case_below (length s.bits) (length s.words)) cases) _ e))) refl)

pub evaluated-small : (lines : List Line) (s : Values) → Small s.words → IsTrue (lines_in_order (length s.bits) (length s.words) lines) → Small (evaluated lines s).words
evaluated-small [] s h e = h
evaluated-small (l ∷ lines) s h e = evaluated-small lines (grown s l) (grown-small s l h (and_first _ _ e)) (order-rest l lines s e)

pub bits-evaluated : (lines : List Line) (s : Values) → length (evaluated lines s).bits ≡ length s.bits + bit_lines lines
bits-evaluated [] s = omega arith
bits-evaluated (l ∷ lines) s = omega (arith, bits-evaluated lines (grown s l), bits-grown s l)

pub words-evaluated : (lines : List Line) (s : Values) → length (evaluated lines s).words ≡ length s.words + word_lines lines
words-evaluated [] s = omega arith
words-evaluated (l ∷ lines) s = omega (arith, words-evaluated lines (grown s l), words-grown s l)

length-dropped : {A : Type 0} (n m : ℕ) (x : List A) → n + m ≤ length x → m ≤ length (drop n x)
length-dropped zero m x h = omega arith
length-dropped (suc n) m [] h = absurd (omega arith)
length-dropped (suc n) m (v ∷ x) h = length-dropped n m x (omega arith)

pub lines_done : (i : SignalSet) (lines : List Line) (s : Values) (x : List Bool) (y : List ℕ) (o : List Bool) → IsTrue (lines_in_order (length s.bits) (length s.words) lines) → Small s.words → bit_lines lines ≤ length x → word_lines lines ≤ length y
    → all_done i (line_statements (length s.bits) (length s.words) lines) (filled s x y o) ≡ filled (evaluated lines s) (drop (bit_lines lines) x) (drop (word_lines lines) y) o
lines_done i [] s x y o h small b w = refl
lines_done i (l ∷ lines) s x y o h small b w =
    let reads : IsTrue (line_below (length s.bits) (length s.words) l) = and_first _ _ h in
    let x' : List Bool = drop (bits_of_line l) x in
    let y' : List ℕ = drop (words_of_line l) y in
    let one = line_done i s l x y o reads small (omega arith) (omega arith) in
    let rest = lines_done i lines (grown s l) x' y' o (order-rest l lines s h) (grown-small s l small reads) (length-dropped (bits_of_line l) (bit_lines lines) x b) (length-dropped (words_of_line l) (word_lines lines) y w) in
    ap (λ (a : Arrays). all_done i (line_statements (length s.bits + bits_of_line l) (length s.words + words_of_line l) lines) a) one
    ∙ ap (λ (k : ℕ). all_done i (line_statements k (length s.words + words_of_line l) lines) (filled (grown s l) x' y' o)) (bits-grown s l)
    ∙ ap (λ (k : ℕ). all_done i (line_statements (length (grown s l).bits) k lines) (filled (grown s l) x' y' o)) (words-grown s l)
    ∙ rest
    ∙ ap (λ (z : List Bool). filled (evaluated lines (grown s l)) z (drop (word_lines lines) y') o) (drop-drop (bit_lines lines) (bits_of_line l) x)
    ∙ ap (λ (z : List ℕ). filled (evaluated lines (grown s l)) (drop (bits_of_line l + bit_lines lines) x) z o) (drop-drop (word_lines lines) (words_of_line l) y)
