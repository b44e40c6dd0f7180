-- The C step of an ordered system reads nothing too early, and assigns each output.
use Rattle.std.proofs.Common.{◌≡◌, ℕ, zero, suc, ◌+◌, ◌<◌, ◌≤◌, List, [], ◌∷◌, ◌++◌, Bool, true, ◌&&◌, IsTrue, length, ◌⊎◌, inl, inr, refl, sym, subst, arith}
use Rattle.std.specs.Prelude.{nat_lt, nat_le, nat_eq}
use Rattle.std.specs.List.{list_all}
use Rattle.std.proofs.lemmas.Bool.Decides.{nat_tests}
use Rattle.argos_base.specs.SignalSets.{lists}
use Rattle.argos_base.proofs.Bools.{and_first, and_second, and_both, or_cases, or_left, or_right}
use Rattle.eqn_core.specs.Equations.{Literal, Choice, code, word, next, Case, Line, all, any, within, digit, choose, bits_of_line, words_of_line, bit_lines, word_lines, Equations, registers, bit_count, word_count}
use Rattle.eqn_core.specs.Ordered.{literal_below, choice_below, case_below, line_below, all_below, all_between, IsOrdered}
use Rattle.eqn_core.specs.inner.OrderTest.{lines_in_order}
use Rattle.eqn_core.proofs.InOrder.{IsOrdered-walk}
use Rattle.line_format.specs.FileNames.{FileNames, HasNames}
use Rattle.c_step.specs.CStep.{CStat, CValue, set_bit, set_word, set_out, between, digit_of, input_of, CStep, Assigned, nothing_assigned, assigns, assigned_after, may_read_literal, may_read_word, may_choose, may_case, may_stand, may_follow, AllListed}
use Rattle.c_emit.specs.COf.{all_value, any_value, line_statement, line_statements, input_statements, out_statements, register_statements, statements_of, c_of}
use Rattle.c_emit.specs.Laws.{CStepsOfSystems}
use Rattle.c_step.proofs.Below.{below, below_test}

-- the bits below b, the words below w and the outputs below o were assigned (registers need not be)
record Known (s : CStep) (at : Assigned) (b w o : ℕ) : Type 0 where
  bits : AllListed b at.bits
  words : (k : ℕ) → IsTrue (nat_lt k w) → IsTrue (may_read_word s at k)
  outs : AllListed o at.outs

-- the statements may follow, and then this is known
abbrev Leaves : CStep → Assigned → List CStat → ℕ → ℕ → ℕ → Type 0
Leaves s at xs b w o = IsTrue (may_follow s at xs) × Known s (assigned_after at xs) b w o

leaves_append : (s : CStep) (at : Assigned) (xs ys : List CStat) (b w o : ℕ) → IsTrue (may_follow s at xs) → Leaves s (assigned_after at xs) ys b w o → Leaves s at (xs ++ ys) b w o
leaves_append s at [] ys b w o h k = k
leaves_append s at (x ∷ xs) ys b w o h k =
    let rest = leaves_append s (assigns at x) xs ys b w o (and_second (may_stand s at x) _ h) k in
    (and_both _ _ (and_first _ _ h) rest.0, rest.1)

last_or_below : (k n : ℕ) → IsTrue (nat_lt k (n + 1)) → (nat_eq n k ≡ true) ⊎ IsTrue (nat_lt k n)
last_or_below k n h = grind (arith, nat_tests)

one_more_listed : (n : ℕ) (ks : List ℕ) → AllListed n ks → AllListed (n + 1) (n ∷ ks)
one_more_listed n ks h k t = elim (last_or_below k n t) [ inl y ↦ or_left _ _ y | inr y ↦ or_right (nat_eq n k) _ (h k y) ]

word_kept : (s : CStep) (at : Assigned) (n k : ℕ) → IsTrue (may_read_word s at k) → IsTrue (may_read_word s (record at { words = n ∷ at.words }) k)
word_kept s at n k h = elim (or_cases (nat_lt k (length s.initial)) (lists at.words k) h) [
  | inl y ↦ or_left _ _ y
  | inr y ↦ or_right (nat_lt k (length s.initial)) _ (or_right (nat_eq n k) _ y)
]

one_more_word : (s : CStep) (at : Assigned) (n : ℕ) → ((k : ℕ) → IsTrue (nat_lt k n) → IsTrue (may_read_word s at k)) → (k : ℕ) → IsTrue (nat_lt k (n + 1)) → IsTrue (may_read_word s (record at { words = n ∷ at.words }) k)
one_more_word s at n h k t = elim (last_or_below k n t) [
  | inl y ↦ or_right (nat_lt k (length s.initial)) _ (or_left _ _ y)
  | inr y ↦ word_kept s at n k (h k y)
]

after_bit : (s : CStep) (at : Assigned) (b w o : ℕ) (v : CValue) → Known s at b w o → Known s (assigns at (set_bit b v)) (b + 1) w o
after_bit s at b w o v h = record { bits = one_more_listed b at.bits h.bits; words = h.words; outs = h.outs }

after_word : (s : CStep) (at : Assigned) (b w o : ℕ) (cases : List Case) (other : Choice) → Known s at b w o → Known s (assigns at (set_word w cases other)) b (w + 1) o
after_word s at b w o cases other h = record { bits = h.bits; words = one_more_word s at w h.words; outs = h.outs }

after_register : (s : CStep) (at : Assigned) (b w o r : ℕ) (cases : List Case) (other : Choice) → Known s at b w o → Known s (assigns at (set_word r cases other)) b w o
after_register s at b w o r cases other h = record { bits = h.bits; words = λ k t. word_kept s at r k (h.words k t); outs = h.outs }

after_out : (s : CStep) (at : Assigned) (b w o k : ℕ) → Known s at b w o → Known s (assigns at (set_out o k)) b w (o + 1)
after_out s at b w o k h = record { bits = h.bits; words = h.words; outs = one_more_listed o at.outs h.outs }

-- sums in another form
known_at : (s : CStep) (at : Assigned) (b w o b' w' o' : ℕ) → b ≡ b' → w ≡ w' → o ≡ o' → Known s at b w o → Known s at b' w' o'
known_at s at b w o b' w' o' e f g h = subst (λ (k : ℕ). Known s at k w' o') e (subst (λ (k : ℕ). Known s at b k o') f (subst (λ (k : ℕ). Known s at b w k) g h))

leaves_at : (s : CStep) (at : Assigned) (xs : List CStat) (b w o b' w' o' : ℕ) → b ≡ b' → w ≡ w' → o ≡ o' → Leaves s at xs b w o → Leaves s at xs b' w' o'
leaves_at s at xs b w o b' w' o' e f g h = (h.0, known_at s (assigned_after at xs) b w o b' w' o' e f g h.1)

inputs_leave : (s : CStep) (at : Assigned) (j n : ℕ) → j + n ≤ s.bits → j + n ≤ length s.names.inputs → Known s at j (length s.initial) 0 → Leaves s at (input_statements j n) (j + n) (length s.initial) 0
inputs_leave s at j zero b i h = (refl, known_at s at j (length s.initial) 0 (j + 0) (length s.initial) 0 (omega arith) refl refl h)
inputs_leave s at j (suc n) b i h =
    let stands : IsTrue (may_stand s at (set_bit j (input_of j))) = and_both (nat_lt j s.bits) (nat_lt j (length s.names.inputs)) (below_test j s.bits (omega arith)) (below_test j (length s.names.inputs) (omega arith)) in
    let rest = inputs_leave s (assigns at (set_bit j (input_of j))) (j + 1) n (omega arith) (omega arith) (after_bit s at j (length s.initial) 0 (input_of j) h) in
    let moved = leaves_at s (assigns at (set_bit j (input_of j))) (input_statements (j + 1) n) (j + 1 + n) (length s.initial) 0 (j + suc n) (length s.initial) 0 (omega arith) refl refl rest in
    (and_both _ _ stands moved.0, moved.1)

-- what lies below what is known may be read
all_implied : {A : Type 0} (p q : A → Bool) → ((x : A) → IsTrue (p x) → IsTrue (q x)) → (xs : List A) → IsTrue (list_all p xs) → IsTrue (list_all q xs)
all_implied p q h [] e = refl
all_implied p q h (x ∷ xs) e = and_both _ _ (h x (and_first _ _ e)) (all_implied p q h xs (and_second (p x) _ e))

literals_read : (s : CStep) (at : Assigned) (b w o : ℕ) (ls : List Literal) → Known s at b w o → IsTrue (list_all (literal_below b) ls) → IsTrue (list_all (may_read_literal at) ls)
literals_read s at b w o ls h e = all_implied (literal_below b) (may_read_literal at) (λ l t. h.bits l.bit t) ls e

choice_read : (s : CStep) (at : Assigned) (b w o : ℕ) (c : Choice) → Known s at b w o → IsTrue (choice_below w c) → IsTrue (may_choose s at c)
choice_read s at b w o (code n) h e = e
choice_read s at b w o (word k) h e = h.words k e
choice_read s at b w o (next k) h e = h.words k e

case_read : (s : CStep) (at : Assigned) (b w o : ℕ) (c : Case) → Known s at b w o → IsTrue (case_below b w c) → IsTrue (may_case s at c)
case_read s at b w o c h e = and_both _ _ (h.bits c.when.bit (and_first _ _ e)) (choice_read s at b w o c.choice h (and_second (literal_below b c.when) _ e))

some_length : {A : Type 0} (x : A) (xs : List A) → IsTrue (nat_le 1 (length (x ∷ xs)))
some_length x xs = grind (arith, nat_tests)

two_length : {A : Type 0} (x y : A) (xs : List A) → IsTrue (nat_le 2 (length (x ∷ (y ∷ xs))))
two_length x y xs = grind (arith, nat_tests)

line_stands : (s : CStep) (at : Assigned) (b w : ℕ) (l : Line) → b + bits_of_line l ≤ s.bits → w + words_of_line l ≤ s.words → Known s at b w 0 → IsTrue (line_below b w l) → IsTrue (may_stand s at (line_statement b w l))
line_stands s at b w (all []) m n h e = and_both _ _ (below_test _ _ (omega arith)) refl
line_stands s at b w (all (l ∷ ls)) m n h e = and_both _ _ (below_test _ _ (omega arith)) (and_both _ _ (some_length l ls) (literals_read s at b w 0 (l ∷ ls) h e))
line_stands s at b w (any []) m n h e = and_both _ _ (below_test _ _ (omega arith)) refl
line_stands s at b w (any (l ∷ [])) m n h e = and_both _ _ (below_test _ _ (omega arith)) (and_both _ _ (some_length l []) (literals_read s at b w 0 (l ∷ []) h e))
line_stands s at b w (any (l ∷ k ∷ ls)) m n h e = and_both _ _ (below_test _ _ (omega arith)) (and_both _ _ (two_length l k ls) (literals_read s at b w 0 (l ∷ (k ∷ ls)) h e))
line_stands s at b w (within k lo hi) m n h e = and_both _ _ (below_test _ _ (omega arith)) (and_both _ _ (h.words k (and_first _ _ e)) (and_second (nat_lt k w) _ e))
line_stands s at b w (digit k place) m n h e = and_both _ _ (below_test _ _ (omega arith)) (and_both _ _ (h.words k (and_first _ _ e)) (and_second (nat_lt k w) _ e))
line_stands s at b w (choose cases other) m n h e =
    and_both _ _ (below_test _ _ (omega arith))
    (and_both _ _ (all_implied (case_below b w) (may_case s at) (λ c t. case_read s at b w 0 c h t) cases (and_first _ _ e)) (choice_read s at b w 0 other h (and_second (list_all (case_below b w) cases) _ e)))

line_known : (s : CStep) (at : Assigned) (b w : ℕ) (l : Line) → Known s at b w 0 → Known s (assigns at (line_statement b w l)) (b + bits_of_line l) (w + words_of_line l) 0
line_known s at b w (all ls) h = known_at s _ (b + 1) w 0 (b + 1) (w + 0) 0 refl (omega arith) refl (after_bit s at b w 0 (all_value ls) h)
line_known s at b w (any ls) h = known_at s _ (b + 1) w 0 (b + 1) (w + 0) 0 refl (omega arith) refl (after_bit s at b w 0 (any_value ls) h)
line_known s at b w (within k lo hi) h = known_at s _ (b + 1) w 0 (b + 1) (w + 0) 0 refl (omega arith) refl (after_bit s at b w 0 (between k lo hi) h)
line_known s at b w (digit k place) h = known_at s _ (b + 1) w 0 (b + 1) (w + 0) 0 refl (omega arith) refl (after_bit s at b w 0 (digit_of k place) h)
line_known s at b w (choose cases other) h = known_at s _ b (w + 1) 0 (b + 0) (w + 1) 0 (omega arith) refl refl (after_word s at b w 0 cases other h)

lines_leave : (s : CStep) (at : Assigned) (b w : ℕ) (lines : List Line) → b + bit_lines lines ≤ s.bits → w + word_lines lines ≤ s.words → IsTrue (lines_in_order b w lines) → Known s at b w 0
    → Leaves s at (line_statements b w lines) (b + bit_lines lines) (w + word_lines lines) 0
lines_leave s at b w [] m n e h = (refl, known_at s at b w 0 (b + 0) (w + 0) 0 (omega arith) (omega arith) refl h)
lines_leave s at b w (l ∷ lines) m n e h =
    let stands : IsTrue (may_stand s at (line_statement b w l)) = line_stands s at b w l (omega arith) (omega arith) h (and_first _ _ e) in
    let at' : Assigned = assigns at (line_statement b w l) in
    let b' : ℕ = b + bits_of_line l in
    let w' : ℕ = w + words_of_line l in
    let rest = lines_leave s at' b' w' lines (omega arith) (omega arith) (and_second (line_below b w l) _ e) (line_known s at b w l h) in
    let moved = leaves_at s at' (line_statements b' w' lines) (b' + bit_lines lines) (w' + word_lines lines) 0 (b + bit_lines (l ∷ lines)) (w + word_lines (l ∷ lines)) 0 (omega arith) (omega arith) refl rest in
    (and_both _ _ stands moved.0, moved.1)

outs_leave : (s : CStep) (at : Assigned) (b w j : ℕ) (ks : List ℕ) → j + length ks ≤ length s.names.outputs → IsTrue (all_below b ks) → Known s at b w j → Leaves s at (out_statements j ks) b w (j + length ks)
outs_leave s at b w j [] m e h = (refl, known_at s at b w j b w (j + 0) refl refl (omega arith) h)
outs_leave s at b w j (k ∷ ks) m e h =
    let stands : IsTrue (may_stand s at (set_out j k)) = and_both _ _ (below_test _ _ (omega arith)) (h.bits k (and_first _ _ e)) in
    let rest = outs_leave s (assigns at (set_out j k)) b w (j + 1) ks (omega arith) (and_second (nat_lt k b) _ e) (after_out s at b w j k h) in
    let moved = leaves_at s (assigns at (set_out j k)) (out_statements (j + 1) ks) b w (j + 1 + length ks) b w (j + length (k ∷ ks)) refl refl (omega arith) rest in
    (and_both _ _ stands moved.0, moved.1)

registers_leave : (s : CStep) (at : Assigned) (b w o lo r : ℕ) (ks : List ℕ) → r + length ks ≤ s.words → IsTrue (all_between lo w ks) → Known s at b w o → Leaves s at (register_statements r ks) b w o
registers_leave s at b w o lo r [] m e h = (refl, h)
registers_leave s at b w o lo r (k ∷ ks) m e h =
    let exists : IsTrue (nat_lt k w) = and_second (nat_le lo k) _ (and_first (nat_le lo k && nat_lt k w) _ e) in
    let stands : IsTrue (may_stand s at (set_word r [] (word k))) = and_both _ _ (below_test _ _ (omega arith)) (and_both true _ refl (h.words k exists)) in
    let rest = registers_leave s (assigns at (set_word r [] (word k))) b w o lo (r + 1) ks (omega arith) (and_second (nat_le lo k && nat_lt k w) _ e) (after_register s at b w o r [] (word k) h) in
    (and_both _ _ stands rest.0, rest.1)

start_known : (s : CStep) → Known s nothing_assigned 0 (length s.initial) 0
start_known s = record { bits = λ k t. absurd (none k t); words = λ k t. or_left _ _ t; outs = λ k t. absurd (none k t) }
  where
    none : (k : ℕ) → IsTrue (nat_lt k 0) → ⊥
    none k t = let h : k < 0 = below k 0 t in omega arith

codes_small : (ks : List ℕ) → IsTrue (all_below 65536 ks) → IsTrue (list_all (λ c. nat_le c 65535) ks)
codes_small ks h = all_implied (λ k. nat_lt k 65536) (λ c. nat_le c 65535) (λ k t. at_most k t) ks h
  where
    at_most : (k : ℕ) → IsTrue (nat_lt k 65536) → IsTrue (nat_le k 65535)
    at_most k t = grind (arith, nat_tests)

counted : (lines : List Line) → bit_lines lines + word_lines lines ≡ length lines
counted [] = refl
counted (all ls ∷ lines) = omega (arith, counted lines)
counted (any ls ∷ lines) = omega (arith, counted lines)
counted (within w lo hi ∷ lines) = omega (arith, counted lines)
counted (digit w place ∷ lines) = omega (arith, counted lines)
counted (choose cases other ∷ lines) = omega (arith, counted lines)

whole_leaves : (E : Equations) (n : FileNames) → IsOrdered E → HasNames E n → Leaves (c_of E n) nothing_assigned (statements_of E) (bit_count E) (word_count E) (length E.outputs)
whole_leaves E n ordered names =
    let s : CStep = c_of E n in
    let s₁ = input_statements 0 E.inputs in
    let s₂ = line_statements E.inputs (registers E) E.lines in
    let s₃ = out_statements 0 E.outputs in
    let s₄ = register_statements 0 E.next in
    let a₁ : Assigned = assigned_after nothing_assigned s₁ in
    let a₂ : Assigned = assigned_after a₁ s₂ in
    let a₃ : Assigned = assigned_after a₂ s₃ in
    let p₁ = leaves_at s nothing_assigned s₁ (0 + E.inputs) (registers E) 0 E.inputs (registers E) 0 (omega arith) refl refl (inputs_leave s nothing_assigned 0 E.inputs (omega arith) (omega (arith, names.inputs)) (start_known s)) in
    let p₂ : Leaves s a₁ s₂ (bit_count E) (word_count E) 0 = lines_leave s a₁ E.inputs (registers E) E.lines (omega arith) (omega arith) (IsOrdered-walk E ordered) p₁.1 in
    let p₃ = leaves_at s a₂ s₃ (bit_count E) (word_count E) (0 + length E.outputs) (bit_count E) (word_count E) (length E.outputs) refl refl (omega arith) (outs_leave s a₂ (bit_count E) (word_count E) 0 E.outputs (omega (arith, names.outputs)) ordered.outputs_exist p₂.1) in
    let p₄ : Leaves s a₃ s₄ (bit_count E) (word_count E) (length E.outputs) = registers_leave s a₃ (bit_count E) (word_count E) (length E.outputs) (registers E) 0 E.next (omega (arith, ordered.next_sized)) ordered.next_exist p₃.1 in
    leaves_append s nothing_assigned s₁ (s₂ ++ (s₃ ++ s₄)) (bit_count E) (word_count E) (length E.outputs) p₁.0
    (leaves_append s a₁ s₂ (s₃ ++ s₄) (bit_count E) (word_count E) (length E.outputs) p₂.0 (leaves_append s a₂ s₃ s₄ (bit_count E) (word_count E) (length E.outputs) p₃.0 p₄))

pub keeps_rules : CStepsOfSystems
keeps_rules E n ordered names =
    let leaves = whole_leaves E n ordered names in
    record {
      input_limit = omega (arith, names.inputs, ordered.input_limit);
      output_limit = omega (arith, names.outputs, ordered.output_limit);
      spelled = names.spelled;
      distinct = names.distinct;
      some_word = omega (arith, ordered.some_register);
      word_limit = omega (arith, ordered.register_limit, ordered.line_limit, counted E.lines);
      some_bit = omega arith;
      bit_limit = omega (arith, ordered.input_limit, ordered.line_limit, counted E.lines);
      some_register = ordered.some_register;
      room = omega arith;
      codes = codes_small E.initial ordered.codes;
      reads = leaves.0;
      outs = subst (λ (k : ℕ). AllListed k (assigned_after nothing_assigned (statements_of E)).outs) (sym names.outputs) leaves.1.outs;
    }
