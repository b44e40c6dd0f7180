-- Each line reads what stands before it, exactly where the walk along the lines finds it so.
use Rattle.std.proofs.Common.{◌≡◌, ℕ, ◌+◌, ◌≤◌, List, [], ◌∷◌, ◌++◌, ◌&&◌, IsTrue, length, refl, sym, ap, subst, arith}
use Rattle.std.specs.Prelude.{nat_le, nat_lt, nat_eq}
use Rattle.std.proofs.lemmas.Bool.Decides.{nat_tests}
use Rattle.std.proofs.lemmas.List.{nil_from_length}
use Rattle.argos_base.proofs.Bools.{and_first, and_second, and_both}
use Rattle.eqn_core.specs.Equations.{Line, bits_of_line, words_of_line, bit_lines, word_lines, Equations, registers, bit_count, word_count}
use Rattle.eqn_core.specs.Ordered.{line_below, all_below, all_between, IsOrdered}
use Rattle.eqn_core.specs.inner.OrderTest.{within_limits, lines_in_order, ends_exist, is_ordered}

-- each line reads what is given and what the lines before it define
abbrev pub EachReadsEarlier : ℕ → ℕ → List Line → Type 0
EachReadsEarlier bits words lines = (before : List Line) (line : Line) (after : List Line) → lines ≡ before ++ line ∷ after → IsTrue (line_below (bits + bit_lines before) (words + word_lines before) line)

move : (b w b' w' : ℕ) (line : Line) → b ≡ b' → w ≡ w' → IsTrue (line_below b w line) → IsTrue (line_below b' w' line)
move b w b' w' line e f h = subst (λ (k : ℕ). IsTrue (line_below k w' line)) e (subst (λ (k : ℕ). IsTrue (line_below b k line)) f h)

walk : (bits words : ℕ) (before : List Line) (line : Line) (after : List Line) → IsTrue (lines_in_order bits words (before ++ line ∷ after)) → IsTrue (line_below (bits + bit_lines before) (words + word_lines before) line)
walk bits words [] line after h = move bits words (bits + 0) (words + 0) line (omega arith) (omega arith) (and_first _ _ h)
walk bits words (l ∷ before) line after h =
    move _ _ _ _ line (omega arith) (omega arith) (walk (bits + bits_of_line l) (words + words_of_line l) before line after (and_second (line_below bits words l) _ h))

pub EachReadsEarlier-from_walk : (bits words : ℕ) (lines : List Line) → IsTrue (lines_in_order bits words lines) → EachReadsEarlier bits words lines
EachReadsEarlier-from_walk bits words lines h = λ before line after e. walk bits words before line after (subst (λ (x : List Line). IsTrue (lines_in_order bits words x)) e h)

pub in_order-from_each : (bits words : ℕ) (lines : List Line) → EachReadsEarlier bits words lines → IsTrue (lines_in_order bits words lines)
in_order-from_each bits words [] h = refl
in_order-from_each bits words (l ∷ lines) h =
    and_both _ _
    (move (bits + 0) (words + 0) bits words l (omega arith) (omega arith) (h [] l lines refl))
    (in_order-from_each (bits + bits_of_line l) (words + words_of_line l) lines
    (λ before line after e. move (bits + (bits_of_line l + bit_lines before)) (words + (words_of_line l + word_lines before)) _ _ line (omega arith) (omega arith) (h (l ∷ before) line after (ap (λ (x : List Line). l ∷ x) e))))

pub IsOrdered-walk : (E : Equations) → IsOrdered E → IsTrue (lines_in_order E.inputs (registers E) E.lines)
IsOrdered-walk E h = in_order-from_each E.inputs (registers E) E.lines h.each

within : (k n : ℕ) → IsTrue (nat_le k n) → k ≤ n
within k n h = grind (arith, nat_tests)

le_test : (k n : ℕ) → k ≤ n → IsTrue (nat_le k n)
le_test k n h = grind (arith, nat_tests)

same : (k n : ℕ) → IsTrue (nat_eq k n) → k ≡ n
same k n h = grind (arith, nat_tests)

same_test : (k n : ℕ) → k ≡ n → IsTrue (nat_eq k n)
same_test k n h = grind (arith, nat_tests)

-- a system that passes the test is ordered
pub IsOrdered-from_test : (E : Equations) → IsTrue (all_below 65536 E.initial) → IsTrue (is_ordered E) → IsOrdered E
IsOrdered-from_test E codes h =
    let limits : IsTrue (within_limits E) = and_first _ _ h in
    let rest : IsTrue (lines_in_order E.inputs (registers E) E.lines && ends_exist E) = and_second (within_limits E) _ h in
    let limits₂ = and_second (nat_le 1 (registers E)) _ limits in
    let limits₃ = and_second (nat_le (registers E) 100000) _ limits₂ in
    let limits₄ = and_second (nat_le E.inputs 16384) _ limits₃ in
    let ends : IsTrue (ends_exist E) = and_second (lines_in_order E.inputs (registers E) E.lines) _ rest in
    let ends₂ = and_second (nat_eq (length E.next) (registers E)) _ ends in
    let ends₃ = and_second (all_between (registers E) (word_count E) E.next) _ ends₂ in
    record {
      some_register = within _ _ (and_first _ _ limits);
      register_limit = within _ _ (and_first _ _ limits₂);
      input_limit = within _ _ (and_first _ _ limits₃);
      output_limit = within _ _ (and_first _ _ limits₄);
      line_limit = within _ _ (and_second (nat_le (length E.outputs) 16384) _ limits₄);
      codes = codes;
      each = EachReadsEarlier-from_walk E.inputs (registers E) E.lines (and_first _ _ rest);
      next_sized = same _ _ (and_first _ _ ends);
      next_exist = and_first _ _ ends₂;
      outputs_exist = and_first _ _ ends₃;
      no_locals = nil_from_length E.locals (same _ _ (and_second (all_below (bit_count E) E.outputs) _ ends₃));
    }

-- and an ordered system passes it
pub test-from_IsOrdered : (E : Equations) → IsOrdered E → IsTrue (is_ordered E)
test-from_IsOrdered E h =
    and_both _ _
    (and_both _ _ (le_test _ _ h.some_register) (and_both _ _ (le_test _ _ h.register_limit) (and_both _ _ (le_test _ _ h.input_limit) (and_both _ _ (le_test _ _ h.output_limit) (le_test _ _ h.line_limit)))))
    (and_both _ _ (IsOrdered-walk E h) (and_both _ _ (same_test _ _ h.next_sized) (and_both _ _ h.next_exist (and_both _ _ h.outputs_exist (same_test _ _ (ap length h.no_locals))))))

-- the same, where the registers are counted and the lines are read elsewhere
pub walk_at : (E : Equations) (words : ℕ) (lines : List Line) → IsOrdered E → words ≡ registers E → lines ≡ E.lines → IsTrue (lines_in_order E.inputs words lines)
walk_at E words lines h w e = subst (λ (k : ℕ). IsTrue (lines_in_order E.inputs k lines)) (sym w) (subst (λ (x : List Line). IsTrue (lines_in_order E.inputs (registers E) x)) (sym e) (IsOrdered-walk E h))

below-from_between : (lo n : ℕ) (ks : List ℕ) → IsTrue (all_between lo n ks) → IsTrue (all_below n ks)
below-from_between lo n [] h = refl
below-from_between lo n (k ∷ ks) h = and_both _ _ (and_second (nat_le lo k) _ (and_first _ _ h)) (below-from_between lo n ks (and_second (nat_le lo k && nat_lt k n) _ h))

-- each next value is a word
pub next_below : (E : Equations) (words : ℕ) (next : List ℕ) → IsOrdered E → words ≡ word_count E → next ≡ E.next → IsTrue (all_below words next)
next_below E words next h w e =
    subst (λ (k : ℕ). IsTrue (all_below k next)) (sym w) (subst (λ (x : List ℕ). IsTrue (all_below (word_count E) x)) (sym e) (below-from_between (registers E) (word_count E) E.next h.next_exist))
