-- The woven system is ordered: each line reads inputs, registers and earlier lines alone.
use Rattle.std.specs.Prelude.{slice_index_or}
use Rattle.std.specs.List.{list_all, range_with_len}
use Rattle.std.proofs.Common.{◌≡◌, ℕ, zero, suc, ◌+◌, ◌*◌, ◌<◌, ◌≤◌, List, [], ◌∷◌, ◌++◌, true, false, IsTrue, nat_lt, nat_le, refl, sym, ◌∙◌, subst, arith, length, map}
use Rattle.std.proofs.lemmas.Bool.Decides.{nat_tests}
use Rattle.std.proofs.lemmas.List.{length-map}
use Rattle.std.proofs.Math.Nat.{suc-mul}
use Rattle.argos_base.specs.SignalSets.{SignalSet}
use Rattle.argos_base.proofs.Bools.{and_first, and_second, and_both}
use Rattle.argos_aspects.specs.Aspects.{Seen, input, output, AreSized}
use Rattle.eqn_core.specs.Equations.{Literal, Choice, code, word, next, Case, Line, all, any, within, digit, choose, bits_of_line, words_of_line, Equations, registers, bit_lines, word_lines, bit_count, word_count}
use Rattle.eqn_core.specs.Ordered.{literal_below, choice_below, case_below, line_below, all_below, all_between, IsOrdered}
use Rattle.eqn_core.specs.inner.OrderTest.{lines_in_order}
use Rattle.eqn_core.proofs.InOrder.{IsOrdered-walk}
use Rattle.weave_lines.specs.WovenLines.{placed, moved_literal, moved_choice, moved_case, moved_line, copied, Words, bit_seen, constants, output_lines, next_lines, base_outputs, seen_bits, together, join_bit, moved_on, bits_together, words_together, along, behind}
use Rattle.weave_lines.proofs.Copies.{all_below-AllBelow, all_between-AllBelow}
use Rattle.weave_lines.proofs.Counts.{bits-line, words-line, bits-moved, words-moved, bits-together, words-together}
use Rattle.weave_lines.proofs.Moving.{below}
use Rattle.weave_lines.proofs.Reading.{AllBelow, below-more, below-at, placed-below}

lt_test : (k n : ℕ) → k < n → IsTrue (nat_lt k n)
lt_test k n h = grind (arith, nat_tests)

le_test : (k n : ℕ) → k ≤ n → IsTrue (nat_le k n)
le_test k n h = grind (arith, nat_tests)

-- moved numbers, and where the walk goes on
pub walk_from : (b c w x : ℕ) (ls : List Line) → b ≡ c → w ≡ x → IsTrue (lines_in_order b w ls) → IsTrue (lines_in_order c x ls)
walk_from b c w x ls e f h = subst (λ (k : ℕ). IsTrue (lines_in_order k x ls)) e (subst (λ (k : ℕ). IsTrue (lines_in_order b k ls)) f h)

order-append : (xs ys : List Line) (b w : ℕ) → IsTrue (lines_in_order b w xs) → IsTrue (lines_in_order (b + bit_lines xs) (w + word_lines xs) ys) → IsTrue (lines_in_order b w (xs ++ ys))
order-append [] ys b w h e = walk_from (b + 0) b (w + 0) w ys (omega arith) (omega arith) e
order-append (x ∷ xs) ys b w h e =
    and_both _ _ (and_first _ _ h)
    (order-append xs ys (b + bits_of_line x) (w + words_of_line x) (and_second (line_below b w x) _ h) (walk_from _ _ _ _ ys (omega arith) (omega arith) e))

-- the same, where the numbers of bits and words are known
pub behind_first : (xs ys : List Line) (b w nb nw : ℕ) → bit_lines xs ≡ nb → word_lines xs ≡ nw → IsTrue (lines_in_order b w xs) → IsTrue (lines_in_order (b + nb) (w + nw) ys) → IsTrue (lines_in_order b w (xs ++ ys))
behind_first xs ys b w nb nw e f h g = order-append xs ys b w h (walk_from (b + nb) (b + bit_lines xs) (w + nw) (w + word_lines xs) ys (omega (arith, e)) (omega (arith, f)) g)

-- moved lines
module _ (bits words : List ℕ) (b w : ℕ) (bits_below : AllBelow b bits) (words_below : AllBelow w words) where
  literal-below : (l : Literal) (n : ℕ) → IsTrue (literal_below (length bits + n) l) → IsTrue (literal_below (b + n) (moved_literal (placed bits b) l))
  literal-below l n h = lt_test _ _ (placed-below bits b n l.bit bits_below (below _ _ h))

  literals-below : (ls : List Literal) (n : ℕ) → IsTrue (list_all (literal_below (length bits + n)) ls) → IsTrue (list_all (literal_below (b + n)) (map (moved_literal (placed bits b)) ls))
  literals-below [] n h = refl
  literals-below (l ∷ ls) n h = and_both _ _ (literal-below l n (and_first _ _ h)) (literals-below ls n (and_second (literal_below (length bits + n) l) _ h))

  word-below : (k m : ℕ) → IsTrue (nat_lt k (length words + m)) → IsTrue (nat_lt (placed words w k) (w + m))
  word-below k m h = lt_test _ _ (placed-below words w m k words_below (below _ _ h))

  choice-below : (c : Choice) (m : ℕ) → IsTrue (choice_below (length words + m) c) → IsTrue (choice_below (w + m) (moved_choice (placed words w) c))
  choice-below (code x) m h = h
  choice-below (word k) m h = word-below k m h
  choice-below (next k) m h = word-below k m h

  cases-below : (cs : List Case) (n m : ℕ) → IsTrue (list_all (case_below (length bits + n) (length words + m)) cs) → IsTrue (list_all (case_below (b + n) (w + m)) (map (moved_case (placed bits b) (placed words w)) cs))
  cases-below [] n m h = refl
  cases-below (c ∷ cs) n m h =
      let first : IsTrue (case_below (length bits + n) (length words + m) c) = and_first _ _ h in
      and_both _ _ (and_both _ _ (literal-below c.when n (and_first _ _ first)) (choice-below c.choice m (and_second (literal_below (length bits + n) c.when) _ first)))
      (cases-below cs n m (and_second (case_below (length bits + n) (length words + m) c) _ h))

  line-below : (l : Line) (n m : ℕ) → IsTrue (line_below (length bits + n) (length words + m) l) → IsTrue (line_below (b + n) (w + m) (moved_line (placed bits b) (placed words w) l))
  line-below (all ls) n m h = literals-below ls n h
  line-below (any ls) n m h = literals-below ls n h
  line-below (within k lo hi) n m h = and_both _ _ (word-below k m (and_first _ _ h)) (and_second (nat_lt k (length words + m)) _ h)
  line-below (digit k d) n m h = and_both _ _ (word-below k m (and_first _ _ h)) (and_second (nat_lt k (length words + m)) _ h)
  line-below (choose cases other) n m h = and_both _ _ (cases-below cases n m (and_first _ _ h)) (choice-below other m (and_second (list_all (case_below (length bits + n) (length words + m)) cases) _ h))

  moved_in_order : (ls : List Line) (n m : ℕ) → IsTrue (lines_in_order (length bits + n) (length words + m) ls) → IsTrue (lines_in_order (b + n) (w + m) (map (moved_line (placed bits b) (placed words w)) ls))
  moved_in_order [] n m h = refl
  moved_in_order (l ∷ ls) n m h =
      and_both _ _ (line-below l n m (and_first _ _ h))
      (walk_from (b + (n + bits_of_line l)) (b + n + bits_of_line (moved_line (placed bits b) (placed words w) l)) (w + (m + words_of_line l)) (w + m + words_of_line (moved_line (placed bits b) (placed words w) l)) (map (moved_line (placed bits b) (placed words w)) ls)
      (omega (arith, bits-line (placed bits b) (placed words w) l)) (omega (arith, words-line (placed bits b) (placed words w) l))
      (moved_in_order ls (n + bits_of_line l) (m + words_of_line l) (walk_from (length bits + n + bits_of_line l) (length bits + (n + bits_of_line l)) (length words + m + words_of_line l) (length words + (m + words_of_line l)) ls (omega arith) (omega arith) (and_second (line_below (length bits + n) (length words + m) l) _ h))))

  pub copied_in_order : (E : Equations) → IsOrdered E → length bits ≡ E.inputs → length words ≡ registers E → IsTrue (lines_in_order b w (copied E bits b words w))
  copied_in_order E h eb ew =
      walk_from (b + 0) b (w + 0) w (copied E bits b words w) (omega arith) (omega arith)
      (moved_in_order E.lines 0 0 (walk_from E.inputs (length bits + 0) (registers E) (length words + 0) E.lines (omega arith) (omega arith) (IsOrdered-walk E h)))

-- what is placed for numbers that exist
pub placed-all : (given : List ℕ) (first n : ℕ) (ks : List ℕ) → AllBelow first given → AllBelow (length given + n) ks → AllBelow (first + n) (map (placed given first) ks)
placed-all given first n [] h e = tt
placed-all given first n (k ∷ ks) h e = (placed-below given first n k h e.0, placed-all given first n ks h e.1)

first-below : (ks : List ℕ) (n d : ℕ) → AllBelow n ks → 0 < length ks → slice_index_or ks 0 d < n
first-below [] n d h e = absurd (omega arith)
first-below (k ∷ ks) n d h e = h.0

constants-below : (one : ℕ) (v : SignalSet) (n : ℕ) → one + 1 < n → AllBelow n (constants one v)
constants-below one [] n h = tt
constants-below one (true ∷ v) n h = (omega arith, constants-below one v n h)
constants-below one (false ∷ v) n h = (omega arith, constants-below one v n h)

seen-below : (bits outs : List ℕ) (n : ℕ) (seen : List Seen) → 0 < n → AllBelow n bits → AllBelow n outs → AllBelow n (map (bit_seen bits outs) seen)
seen-below bits outs n [] some h e = tt
seen-below bits outs n (input k ∷ seen) some h e = (below-at bits n k 0 h some, seen-below bits outs n seen some h e)
seen-below bits outs n (output k ∷ seen) some h e = (below-at outs n k 0 e some, seen-below bits outs n seen some h e)

-- the lines that join
pub outputs_in_order : (j : ℕ) (outs : SignalSet) (bits : List ℕ) (b w : ℕ) → j < b → AllBelow b bits → IsTrue (lines_in_order b w (output_lines j outs bits))
outputs_in_order j [] bits b w h e = refl
outputs_in_order j (x ∷ outs) [] b w h e = refl
outputs_in_order j (true ∷ outs) (k ∷ bits) b w h e = and_both _ _ (and_both _ _ (lt_test j b h) (and_both _ _ (lt_test k b e.0) refl)) (outputs_in_order j outs bits (b + 1) (w + 0) (omega arith) (below-more bits b (b + 1) (omega arith) e.1))
outputs_in_order j (false ∷ outs) (k ∷ bits) b w h e = and_both _ _ (and_both _ _ (lt_test j b h) (and_both _ _ (lt_test k b e.0) refl)) (outputs_in_order j outs bits (b + 1) (w + 0) (omega arith) (below-more bits b (b + 1) (omega arith) e.1))

abbrev pub IsChoice : ℕ → Choice → Type 0
IsChoice w (code n) = n ≤ 65535
IsChoice w (word k) = k < w
IsChoice w (next k) = k < w

abbrev pub AreChoices : ℕ → List Choice → Type 0
AreChoices w [] = Unit {0}
AreChoices w (c ∷ choices) = IsChoice w c × AreChoices w choices

choice-more : (c : Choice) (w : ℕ) → IsChoice w c → IsChoice (w + 1) c
choice-more (code n) w h = h
choice-more (word k) w h = omega arith
choice-more (next k) w h = omega arith

choices-more : (cs : List Choice) (w : ℕ) → AreChoices w cs → AreChoices (w + 1) cs
choices-more [] w h = tt
choices-more (c ∷ cs) w h = (choice-more c w h.0, choices-more cs w h.1)

choice-test : (c : Choice) (w : ℕ) → IsChoice w c → IsTrue (choice_below w c)
choice-test (code n) w h = le_test n 65535 h
choice-test (word k) w h = lt_test k w h
choice-test (next k) w h = lt_test k w h

pub next_in_order : (j : ℕ) (choices : List Choice) (words : List ℕ) (b w : ℕ) → j < b → AreChoices w choices → AllBelow w words → IsTrue (lines_in_order b w (next_lines j choices words))
next_in_order j [] words b w h c e = refl
next_in_order j (x ∷ choices) [] b w h c e = refl
next_in_order j (x ∷ choices) (k ∷ words) b w h c e =
    and_both _ _ (and_both _ _ (and_both _ _ (and_both _ _ (lt_test j b h) (choice-test x w c.0)) refl) (lt_test k w e.0))
    (next_in_order j choices words (b + 0) (w + 1) (omega arith) (choices-more choices w c.1) (below-more words w (w + 1) (omega arith) e.1))

pub code-choices : (w : ℕ) (ns : List ℕ) → AllBelow 65536 ns → AreChoices w (map code ns)
code-choices w [] h = tt
code-choices w (n ∷ ns) h = (omega (arith, h.0), code-choices w ns h.1)

pub word-choices : (w : ℕ) (ks : List ℕ) → AllBelow w ks → AreChoices w (map word ks)
word-choices w [] h = tt
word-choices w (k ∷ ks) h = (h.0, word-choices w ks h.1)

pub between-range : (lo a m n : ℕ) → lo ≤ a → a + m ≤ n → IsTrue (all_between lo n (range_with_len a m))
between-range lo a zero n h e = refl
between-range lo a (suc m) n h e = and_both _ _ (and_both _ _ (le_test lo a h) (lt_test a n (omega arith))) (between-range lo (a + 1) m n (omega arith) (omega arith))

pub range_below : (a m n : ℕ) → a + m ≤ n → IsTrue (all_below n (range_with_len a m))
range_below a zero n e = refl
range_below a (suc m) n e = and_both _ _ (lt_test a n (omega arith)) (range_below (a + 1) m n (omega arith))

pub all_below-append : (n : ℕ) (xs ys : List ℕ) → IsTrue (all_below n xs) → IsTrue (all_below n ys) → IsTrue (all_below n (xs ++ ys))
all_below-append n [] ys h e = e
all_below-append n (x ∷ xs) ys h e = and_both _ _ (and_first _ _ h) (all_below-append n xs ys (and_second (nat_lt x n) _ h) e)

module _ (W J : Equations) (seen : List Seen) (w_ordered : IsOrdered W) (j_ordered : IsOrdered J) (seen_sized : length seen ≡ J.inputs) (one_output : length J.outputs ≡ 1) where
  -- words that hold memories of both, below w
  pub record WordsIn (x : Words) (w : ℕ) : Type 0 where
    pub base_sized : length x.base ≡ registers W
    pub observer_sized : length x.observer ≡ registers J
    pub base_below : AllBelow w x.base
    pub observer_below : AllBelow w x.observer

  pub outs_below : (bits : List ℕ) (b : ℕ) → length bits ≡ W.inputs → AllBelow b bits → AllBelow (b + bit_lines W.lines) (base_outputs W J bits b)
  outs_below bits b sized h = placed-all bits b (bit_lines W.lines) W.outputs h (subst (λ (k : ℕ). AllBelow (k + bit_lines W.lines) W.outputs) (sym sized) (all_below-AllBelow (bit_count W) W.outputs w_ordered.outputs_exist))

  seen_below : (bits : List ℕ) (b : ℕ) → 0 < b → length bits ≡ W.inputs → AllBelow b bits → AllBelow (b + bit_lines W.lines) (seen_bits W J seen bits b)
  seen_below bits b some sized h = seen-below bits (base_outputs W J bits b) (b + bit_lines W.lines) seen (omega arith) (below-more bits b (b + bit_lines W.lines) (omega arith) h) (outs_below bits b sized h)

  seen_bits_sized : (bits : List ℕ) (b : ℕ) → length (seen_bits W J seen bits b) ≡ J.inputs
  seen_bits_sized bits b = length-map seen (bit_seen bits (base_outputs W J bits b)) ∙ seen_sized

  pub join_below : (bits : List ℕ) (b : ℕ) → 0 < b → length bits ≡ W.inputs → AllBelow b bits → join_bit W J seen bits b < b + bits_together W J
  join_below bits b some sized h =
      let exists : slice_index_or J.outputs 0 0 < bit_count J = first-below J.outputs (bit_count J) 0 (all_below-AllBelow (bit_count J) J.outputs j_ordered.outputs_exist) (omega (arith, one_output)) in
      let placed_there = placed-below (seen_bits W J seen bits b) (b + bit_lines W.lines) (bit_lines J.lines) (slice_index_or J.outputs 0 0) (seen_below bits b some sized h) (omega (arith, seen_bits_sized bits b)) in
      omega (arith, placed_there)

  pub moved_on_in : (x : Words) (w : ℕ) → WordsIn x w → WordsIn (moved_on W J x w) (w + words_together W J)
  moved_on_in x w h =
      let base = placed-all x.base w (word_lines W.lines) W.next h.base_below (subst (λ (k : ℕ). AllBelow (k + word_lines W.lines) W.next) (sym h.base_sized) (all_between-AllBelow (registers W) (word_count W) W.next w_ordered.next_exist)) in
      let observer = placed-all x.observer (w + word_lines W.lines) (word_lines J.lines) J.next (below-more x.observer w (w + word_lines W.lines) (omega arith) h.observer_below) (subst (λ (k : ℕ). AllBelow (k + word_lines J.lines) J.next) (sym h.observer_sized) (all_between-AllBelow (registers J) (word_count J) J.next j_ordered.next_exist)) in
      record {
        base_sized = length-map W.next (placed x.base w) ∙ w_ordered.next_sized;
        observer_sized = length-map J.next (placed x.observer (w + word_lines W.lines)) ∙ j_ordered.next_sized;
        base_below = below-more (map (placed x.base w) W.next) (w + word_lines W.lines) (w + words_together W J) (omega arith) base;
        observer_below = below-more (map (placed x.observer (w + word_lines W.lines)) J.next) (w + word_lines W.lines + word_lines J.lines) (w + words_together W J) (omega arith) observer;
      }

  words_more : (x : Words) (w y : ℕ) → w ≡ y → WordsIn x w → WordsIn x y
  words_more x w y e h = subst (λ (k : ℕ). WordsIn x k) e h

  pub behind_in : (trace : List SignalSet) (x : Words) (w : ℕ) → WordsIn x w → WordsIn (behind W J trace x w) (w + length trace * words_together W J)
  behind_in [] x w h = words_more x w (w + 0 * words_together W J) (omega arith) h
  behind_in (v ∷ trace) x w h = words_more (behind W J trace (moved_on W J x w) (w + words_together W J)) _ _ (omega (arith, suc-mul (length trace) (words_together W J))) (behind_in trace (moved_on W J x w) (w + words_together W J) (moved_on_in x w h))

  pub together_in_order : (bits : List ℕ) (x : Words) (b w : ℕ) → 0 < b → length bits ≡ W.inputs → AllBelow b bits → WordsIn x w → IsTrue (lines_in_order b w (together W J seen bits x b w))
  together_in_order bits x b w some sized h i =
      behind_first (copied W bits b x.base w) (copied J (seen_bits W J seen bits b) (b + bit_lines W.lines) x.observer (w + word_lines W.lines)) b w (bit_lines W.lines) (word_lines W.lines) (bits-moved (placed bits b) (placed x.base w) W.lines) (words-moved (placed bits b) (placed x.base w) W.lines)
      (copied_in_order bits x.base b w h i.base_below W w_ordered sized i.base_sized)
      (copied_in_order (seen_bits W J seen bits b) x.observer (b + bit_lines W.lines) (w + word_lines W.lines) (seen_below bits b some sized h) (below-more x.observer w (w + word_lines W.lines) (omega arith) i.observer_below) J j_ordered (seen_bits_sized bits b) i.observer_sized)

  pub along_in_order : (one : ℕ) (trace : List SignalSet) (x : Words) (b w : ℕ) → one + 1 < b → AreSized W.inputs trace → WordsIn x w → IsTrue (lines_in_order b w (along W J seen one trace x b w))
  along_in_order one [] x b w h sized i = refl
  along_in_order one (v ∷ trace) x b w h sized i =
      behind_first (together W J seen (constants one v) x b w) (along W J seen one trace (moved_on W J x w) (b + bits_together W J) (w + words_together W J)) b w (bits_together W J) (words_together W J) (bits-together W J seen (constants one v) x b w) (words-together W J seen (constants one v) x b w)
      (together_in_order (constants one v) x b w (omega arith) (length-map v _ ∙ sized.0) (constants-below one v b h) i)
      (along_in_order one trace (moved_on W J x w) (b + bits_together W J) (w + words_together W J) (omega arith) sized.1 (moved_on_in x w i))
