-- The values that lines give one after another, and that these are the one solution where each line reads earlier ones alone.
use Rattle.std.proofs.Common.{◌≡◌, ℕ, ◌+◌, ◌≤◌, List, [], ◌∷◌, ◌++◌, Bool, IsTrue, length, take, refl, sym, ap, ◌∙◌, subst, append_assoc, length-append, arith}
use Rattle.std.specs.Prelude.{flat_map}
use Rattle.std.proofs.lemmas.List.{append-nil, length-take-le, take_all}
use Rattle.argos_base.proofs.Bools.{and_first, and_second}
use Rattle.eqn_core.specs.Equations.{Line, all, any, within, digit, choose, bits_of_line, words_of_line, bit_lines, word_lines}
use Rattle.eqn_core.specs.inner.LineValues.{known}
use Rattle.eqn_core.specs.Ordered.{line_below}
use Rattle.eqn_core.specs.inner.OrderTest.{lines_in_order}
use Rattle.eqn_core.specs.Solutions.{Values, defined_bits, defined_words, Completes}
use Rattle.eqn_core.proofs.Agreement.{longer, defined_bits-longer, defined_words-longer}

-- with the value of one more line
abbrev pub grown : Values → Line → Values
grown s l = longer s (defined_bits s l) (defined_words s l)

-- with the values of the lines, each found from those before it
abbrev pub evaluated : List Line → Values → Values
evaluated [] s = s
evaluated (l ∷ lines) s = evaluated lines (grown s l)

same_values : (s t : Values) → s.bits ≡ t.bits → s.words ≡ t.words → s ≡ t
same_values s t e f = ap (λ (b : List Bool). known b s.words) e ∙ ap (λ (w : List ℕ). known t.bits w) f

-- a line that reads what s has gives the same in what s begins
bits-agree : (s t : Values) (b : List Bool) (w : List ℕ) (l : Line) → t.bits ≡ s.bits ++ b → t.words ≡ s.words ++ w → IsTrue (line_below (length s.bits) (length s.words) l) → defined_bits t l ≡ defined_bits s l
bits-agree s t b w l e f h = ap (λ (v : Values). defined_bits v l) (same_values t (longer s b w) e f) ∙ defined_bits-longer s b w l h

words-agree : (s t : Values) (b : List Bool) (w : List ℕ) (l : Line) → t.bits ≡ s.bits ++ b → t.words ≡ s.words ++ w → IsTrue (line_below (length s.bits) (length s.words) l) → defined_words t l ≡ defined_words s l
words-agree s t b w l e f h = ap (λ (v : Values). defined_words v l) (same_values t (longer s b w) e f) ∙ defined_words-longer s b w l h

length-defined_bits : (s : Values) (l : Line) → length (defined_bits s l) ≡ bits_of_line l
length-defined_bits s (all ls) = refl
length-defined_bits s (any ls) = refl
length-defined_bits s (within w lo hi) = refl
length-defined_bits s (digit w place) = refl
length-defined_bits s (choose cases other) = refl

length-defined_words : (s : Values) (l : Line) → length (defined_words s l) ≡ words_of_line l
length-defined_words s (all ls) = refl
length-defined_words s (any ls) = refl
length-defined_words s (within w lo hi) = refl
length-defined_words s (digit w place) = refl
length-defined_words s (choose cases other) = refl

-- the rest of the lines is in order behind the grown values
order-rest : (l : Line) (lines : List Line) (s : Values) → IsTrue (lines_in_order (length s.bits) (length s.words) (l ∷ lines)) → IsTrue (lines_in_order (length (grown s l).bits) (length (grown s l).words) lines)
order-rest l lines s h =
    let rest : IsTrue (lines_in_order (length s.bits + bits_of_line l) (length s.words + words_of_line l) lines) = and_second (line_below (length s.bits) (length s.words) l) _ h in
    let b : length s.bits + bits_of_line l ≡ length (s.bits ++ defined_bits s l) = ap (λ (n : ℕ). length s.bits + n) (sym (length-defined_bits s l)) ∙ sym (length-append s.bits (defined_bits s l)) in
    let w : length s.words + words_of_line l ≡ length (s.words ++ defined_words s l) = ap (λ (n : ℕ). length s.words + n) (sym (length-defined_words s l)) ∙ sym (length-append s.words (defined_words s l)) in
    subst (λ (k : ℕ). IsTrue (lines_in_order k (length (s.words ++ defined_words s l)) lines)) b (subst (λ (k : ℕ). IsTrue (lines_in_order (length s.bits + bits_of_line l) k lines)) w rest)

-- the evaluated values make the lines true
pub evaluated-completes : (lines : List Line) (s : Values) → IsTrue (lines_in_order (length s.bits) (length s.words) lines) → Completes lines s (evaluated lines s)
evaluated-completes [] s h = record { bits = sym (append-nil s.bits); words = sym (append-nil s.words) }
evaluated-completes (l ∷ lines) s h =
    let t : Values = evaluated lines (grown s l) in
    let rest : Completes lines (grown s l) t = evaluated-completes lines (grown s l) (order-rest l lines s h) in
    let reads : IsTrue (line_below (length s.bits) (length s.words) l) = and_first _ _ h in
    let b : t.bits ≡ s.bits ++ (defined_bits s l ++ flat_map (defined_bits t) lines) = rest.bits ∙ append_assoc s.bits (defined_bits s l) (flat_map (defined_bits t) lines) in
    let w : t.words ≡ s.words ++ (defined_words s l ++ flat_map (defined_words t) lines) = rest.words ∙ append_assoc s.words (defined_words s l) (flat_map (defined_words t) lines) in
    record {
      bits = b ∙ ap (λ (x : List Bool). s.bits ++ (x ++ flat_map (defined_bits t) lines)) (sym (bits-agree s t _ _ l b w reads));
      words = w ∙ ap (λ (x : List ℕ). s.words ++ (x ++ flat_map (defined_words t) lines)) (sym (words-agree s t _ _ l b w reads));
    }

-- and no other values do
pub completes-is_evaluated : (lines : List Line) (s t : Values) → IsTrue (lines_in_order (length s.bits) (length s.words) lines) → Completes lines s t → t ≡ evaluated lines s
completes-is_evaluated [] s t h c = same_values t s (c.bits ∙ append-nil s.bits) (c.words ∙ append-nil s.words)
completes-is_evaluated (l ∷ lines) s t h c =
    let reads : IsTrue (line_below (length s.bits) (length s.words) l) = and_first _ _ h in
    let b : defined_bits t l ≡ defined_bits s l = bits-agree s t _ _ l c.bits c.words reads in
    let w : defined_words t l ≡ defined_words s l = words-agree s t _ _ l c.bits c.words reads in
    let rest : Completes lines (grown s l) t =
    record {
      bits = c.bits ∙ ap (λ (x : List Bool). s.bits ++ (x ++ flat_map (defined_bits t) lines)) b ∙ sym (append_assoc s.bits (defined_bits s l) (flat_map (defined_bits t) lines));
      words = c.words ∙ ap (λ (x : List ℕ). s.words ++ (x ++ flat_map (defined_words t) lines)) w ∙ sym (append_assoc s.words (defined_words s l) (flat_map (defined_words t) lines));
    }
    in completes-is_evaluated lines (grown s l) t (order-rest l lines s h) rest

-- The loop of the evaluation: with `left` still to come, the places up to `bit` and `word` hold what the lines before gave.
pub record Evaluates (lines : List Line) (bit₀ word₀ : ℕ) (bits₀ : List Bool) (words₀ : List ℕ) (left : List Line) (bit word : ℕ) (bits : List Bool) (words : List ℕ) : Type 0 where
  pub order : IsTrue (lines_in_order bit word left)
  pub bit_places : length bits ≡ bit + bit_lines left
  pub word_places : length words ≡ word + word_lines left
  pub ends : evaluated left (known (take bit bits) (take word words)) ≡ evaluated lines (known (take bit₀ bits₀) (take word₀ words₀))

-- in the end the lists are the solution
pub Completes-at_end : (lines : List Line) (bit₀ word₀ : ℕ) (bits₀ : List Bool) (words₀ : List ℕ) (bit word : ℕ) (bits : List Bool) (words : List ℕ) → IsTrue (lines_in_order bit₀ word₀ lines) → bit₀ ≤ length bits₀ → word₀ ≤ length words₀
    → Evaluates lines bit₀ word₀ bits₀ words₀ [] bit word bits words → Completes lines (known (take bit₀ bits₀) (take word₀ words₀)) (known bits words)
Completes-at_end lines bit₀ word₀ bits₀ words₀ bit word bits words order b w h =
    let given : Values = known (take bit₀ bits₀) (take word₀ words₀) in
    let start : IsTrue (lines_in_order (length given.bits) (length given.words) lines) =
    subst (λ (k : ℕ). IsTrue (lines_in_order k (length given.words) lines)) (sym (length-take-le bit₀ bits₀ b)) (subst (λ (k : ℕ). IsTrue (lines_in_order bit₀ k lines)) (sym (length-take-le word₀ words₀ w)) order)
    in
    let whole : known (take bit bits) (take word words) ≡ known bits words = same_values _ _ (take_all bit bits (omega (arith, h.bit_places))) (take_all word words (omega (arith, h.word_places))) in
    subst (Completes lines given) (sym h.ends ∙ whole) (evaluated-completes lines given start)
