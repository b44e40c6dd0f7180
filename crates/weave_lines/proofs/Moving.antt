-- Moved lines mean what the lines meant: read at the moved numbers, their values are a solution.
use Rattle.std.specs.Prelude.{flat_map, ◌/◌, ◌%◌, ◌^◌}
use Rattle.std.specs.List.{list_all, list_any}
use Rattle.std.proofs.Common.{◌≡◌, ℕ, ◌+◌, ◌<◌, ◌≤◌, List, [], ◌∷◌, ◌++◌, Bool, ◌&&◌, ◌||◌, not, cond, IsTrue, nat_lt, nat_le, nat_eq, refl, sym, ap, ◌∙◌, arith, map}
use Rattle.std.proofs.lemmas.Bool.Decides.{nat_tests}
use Rattle.argos_base.proofs.Bools.{and_first, and_second}
use Rattle.eqn_core.specs.Equations.{Literal, Choice, code, word, next, Case, Line, all, any, within, digit, choose, bits_of_line, words_of_line, bit_lines, word_lines}
use Rattle.eqn_core.specs.Ordered.{literal_below, choice_below, case_below, line_below}
use Rattle.eqn_core.specs.inner.OrderTest.{lines_in_order}
use Rattle.eqn_core.specs.Solutions.{Values, bit_of, word_of, is_true, next_code, value_of, chosen_value, defined_bits, defined_words}
use Rattle.weave_lines.specs.WovenLines.{moved_literal, moved_choice, moved_case, moved_line}
use Rattle.weave_lines.proofs.Places.{next_bit, next_word, at_place, IsAt, AreAt}
use Rattle.weave_lines.proofs.Reading.{from, from-append}

pub below : (k n : ℕ) → IsTrue (nat_lt k n) → k < n
below k n h = grind (arith, nat_tests)

-- t has below B and V what s has at the moved numbers
module _ (s t : Values) (bit place : ℕ → ℕ) (B V : ℕ) (bits : (k : ℕ) → k < B → bit_of t k ≡ bit_of s (bit k)) (words : (k : ℕ) → k < V → word_of t k ≡ word_of s (place k)) where
  literal-moved : (l : Literal) (n : ℕ) → n ≤ B → IsTrue (literal_below n l) → is_true s (moved_literal bit l) ≡ is_true t l
  literal-moved l n le h = let b : l.bit < n = below l.bit n h in ap (λ (x : Bool). cond l.negated (not x) x) (sym (bits l.bit (omega arith)))

  all-moved : (ls : List Literal) (n : ℕ) → n ≤ B → IsTrue (list_all (literal_below n) ls) → list_all (is_true s) (map (moved_literal bit) ls) ≡ list_all (is_true t) ls
  all-moved [] n le h = refl
  all-moved (l ∷ ls) n le h =
      ap (λ (x : Bool). x && list_all (is_true s) (map (moved_literal bit) ls)) (literal-moved l n le (and_first _ _ h))
      ∙ ap (λ (x : Bool). is_true t l && x) (all-moved ls n le (and_second (literal_below n l) _ h))

  any-moved : (ls : List Literal) (n : ℕ) → n ≤ B → IsTrue (list_all (literal_below n) ls) → list_any (is_true s) (map (moved_literal bit) ls) ≡ list_any (is_true t) ls
  any-moved [] n le h = refl
  any-moved (l ∷ ls) n le h =
      ap (λ (x : Bool). x || list_any (is_true s) (map (moved_literal bit) ls)) (literal-moved l n le (and_first _ _ h))
      ∙ ap (λ (x : Bool). is_true t l || x) (any-moved ls n le (and_second (literal_below n l) _ h))

  word-moved : (k n : ℕ) → n ≤ V → IsTrue (nat_lt k n) → word_of s (place k) ≡ word_of t k
  word-moved k n le h = let b : k < n = below k n h in sym (words k (omega arith))

  choice-moved : (c : Choice) (n : ℕ) → n ≤ V → IsTrue (choice_below n c) → value_of s (moved_choice place c) ≡ value_of t c
  choice-moved (code x) n le h = refl
  choice-moved (word k) n le h = word-moved k n le h
  choice-moved (next k) n le h = ap next_code (word-moved k n le h)

  chosen-moved : (cases : List Case) (other : Choice) (n m : ℕ) → n ≤ B → m ≤ V → IsTrue (list_all (case_below n m) cases) → IsTrue (choice_below m other) → chosen_value s (map (moved_case bit place) cases) (moved_choice place other) ≡ chosen_value t cases other
  chosen-moved [] other n m lb lw h e = choice-moved other m lw e
  chosen-moved (c ∷ cases) other n m lb lw h e =
      let first : IsTrue (case_below n m c) = and_first _ _ h in
      let when : is_true s (moved_literal bit c.when) ≡ is_true t c.when = literal-moved c.when n lb (and_first _ _ first) in
      let picked : value_of s (moved_choice place c.choice) ≡ value_of t c.choice = choice-moved c.choice m lw (and_second (literal_below n c.when) _ first) in
      let others : chosen_value s (map (moved_case bit place) cases) (moved_choice place other) ≡ chosen_value t cases other = chosen-moved cases other n m lb lw (and_second (case_below n m c) _ h) e in
      ap (λ (x : Bool). cond x (value_of s (moved_choice place c.choice)) (chosen_value s (map (moved_case bit place) cases) (moved_choice place other))) when
      ∙ ap (λ (x : ℕ). cond (is_true t c.when) x (chosen_value s (map (moved_case bit place) cases) (moved_choice place other))) picked
      ∙ ap (λ (x : ℕ). cond (is_true t c.when) (value_of t c.choice) x) others

  line-at : (l : Line) (n m b w : ℕ) → n ≤ B → m ≤ V → IsTrue (line_below n m l) → IsAt s b w (moved_line bit place l)
      → (defined_bits t l ≡ from (bit_of s) b (bits_of_line l)) × (defined_words t l ≡ from (word_of s) w (words_of_line l))
  line-at (all ls) n m b w lb lw h a = (ap (λ (x : Bool). x ∷ []) (sym (all-moved ls n lb h) ∙ sym a), refl)
  line-at (any ls) n m b w lb lw h a = (ap (λ (x : Bool). x ∷ []) (sym (any-moved ls n lb h) ∙ sym a), refl)
  line-at (within k lo hi) n m b w lb lw h a =
      (ap (λ (x : Bool). x ∷ []) (ap (λ (x : ℕ). nat_le lo x && nat_le x hi) (sym (word-moved k m lw (and_first _ _ h))) ∙ sym a), refl)
  line-at (digit k d) n m b w lb lw h a =
      (ap (λ (x : Bool). x ∷ []) (ap (λ (x : ℕ). nat_eq (x / 2 ^ d % 2) 1) (sym (word-moved k m lw (and_first _ _ h))) ∙ sym a), refl)
  line-at (choose cases other) n m b w lb lw h a =
      (refl, ap (λ (x : ℕ). x ∷ []) (sym (chosen-moved cases other n m lb lw (and_first _ _ h) (and_second (list_all (case_below n m) cases) _ h)) ∙ sym a))

  pub lines-at : (ls : List Line) (n m b w : ℕ) → n + bit_lines ls ≤ B → m + word_lines ls ≤ V → IsTrue (lines_in_order n m ls) → AreAt s b w (map (moved_line bit place) ls)
      → (flat_map (defined_bits t) ls ≡ from (bit_of s) b (bit_lines ls)) × (flat_map (defined_words t) ls ≡ from (word_of s) w (word_lines ls))
  lines-at [] n m b w lb lw h a = (refl, refl)
  lines-at (l ∷ ls) n m b w lb lw h a =
      let here = line-at l n m b w (omega arith) (omega arith) (and_first _ _ h) a.0 in
      let moved : AreAt s (b + bits_of_line l) (w + words_of_line l) (map (moved_line bit place) ls) = at_place s (next_bit b (moved_line bit place l)) (b + bits_of_line l) (next_word w (moved_line bit place l)) (w + words_of_line l) (map (moved_line bit place) ls) (moved-bit l b) (moved-word l w) a.1 in
      let rest = lines-at ls (n + bits_of_line l) (m + words_of_line l) (b + bits_of_line l) (w + words_of_line l) (omega arith) (omega arith) (and_second (line_below n m l) _ h) moved in (
        ap (λ (x : List Bool). x ++ flat_map (defined_bits t) ls) here.0 ∙ ap (λ (x : List Bool). from (bit_of s) b (bits_of_line l) ++ x) rest.0 ∙ sym (from-append (bit_of s) b (bits_of_line l) (bit_lines ls)),
        ap (λ (x : List ℕ). x ++ flat_map (defined_words t) ls) here.1 ∙ ap (λ (x : List ℕ). from (word_of s) w (words_of_line l) ++ x) rest.1 ∙ sym (from-append (word_of s) w (words_of_line l) (word_lines ls)),
      )
    where
      moved-bit : (l : Line) (b : ℕ) → next_bit b (moved_line bit place l) ≡ b + bits_of_line l
      moved-bit (all ls) b = omega arith
      moved-bit (any ls) b = omega arith
      moved-bit (within k lo hi) b = omega arith
      moved-bit (digit k d) b = omega arith
      moved-bit (choose cases other) b = omega arith

      moved-word : (l : Line) (w : ℕ) → next_word w (moved_line bit place l) ≡ w + words_of_line l
      moved-word (all ls) w = omega arith
      moved-word (any ls) w = omega arith
      moved-word (within k lo hi) w = omega arith
      moved-word (digit k d) w = omega arith
      moved-word (choose cases other) w = omega arith
