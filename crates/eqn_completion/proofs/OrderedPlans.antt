-- An ordered system is one with a plan.
use Rattle.std.proofs.Common.{◌≡◌, ℕ, zero, suc, ◌+◌, ◌-◌, ◌<◌, ◌≤◌, List, [], ◌∷◌, ◌++◌, true, false, ◌&&◌, nat_eq, nat_lt, inl, inr, length, ap, sym, ◌∙◌, subst, refl, arith, append_assoc, length-append}
use Rattle.std.specs.Prelude.{filter}
use Rattle.std.specs.List.{list_all, range_with_len}
use Rattle.std.proofs.lemmas.Bool.{cases_lt}
use Rattle.std.proofs.lemmas.Bool.Decides.{nat_tests}
use Rattle.std.proofs.lemmas.List.FromFn.{length-range_with_len}
use Rattle.argos_base.specs.SignalSets.{lists}
use Rattle.argos_base.proofs.Bools.{and_first, and_second, and_both, or_cases, or_left, or_right}
use Rattle.eqn_core.specs.Dependence.{Item, bit_item, word_item, line_reads, some_literal, choice_reads, some_when, some_choice, Defines}
use Rattle.eqn_core.specs.Equations.{Literal, Choice, code, word, next, Case, Line, all, any, within, digit, choose, Equations, registers, bit_lines, word_lines, bit_count, word_count}
use Rattle.eqn_core.specs.Ordered.{literal_below, choice_below, case_below, line_below, IsOrdered}
use Rattle.eqn_core.specs.Plans.{IsKnown, input, register, earlier_line}
use Rattle.eqn_completion.specs.OrderedSystems.{OrderedLinesExist, OrderedArePlanned}
use Rattle.eqn_completion.proofs.Counting.{bits-append, words-append}
use Rattle.eqn_completion.proofs.Knowing.{find-bit, find-word, bit-defined, word-defined}
use Rattle.eqn_completion.proofs.Reading.{nat_eq-itself, nat_eq-tells}

below : (a b : ℕ) → nat_lt a b ≡ true → a < b
below a b h = grind (arith, nat_tests)

lt-wider : (k n m : ℕ) → nat_lt k n ≡ true → n ≤ m → nat_lt k m ≡ true
lt-wider k n m h e = grind (arith, nat_tests)

-- what is below some numbers is below greater ones
module _ (b w c x : ℕ) (bits : b ≤ c) (words : w ≤ x) where
  literals-wider : (ls : List Literal) → list_all (literal_below b) ls ≡ true → list_all (literal_below c) ls ≡ true
  literals-wider [] h = refl
  literals-wider (l ∷ ls) h = and_both _ _ (lt-wider l.bit b c (and_first _ _ h) bits) (literals-wider ls (and_second (literal_below b l) _ h))

  choice-wider : (y : Choice) → choice_below w y ≡ true → choice_below x y ≡ true
  choice-wider (code n) h = h
  choice-wider (word k) h = lt-wider k w x h words
  choice-wider (next k) h = lt-wider k w x h words

  cases-wider : (cases : List Case) → list_all (case_below b w) cases ≡ true → list_all (case_below c x) cases ≡ true
  cases-wider [] h = refl
  cases-wider (d ∷ cases) h =
      let one : (nat_lt d.when.bit b && choice_below w d.choice) ≡ true = and_first _ _ h in
      and_both _ _ (and_both _ _ (lt-wider d.when.bit b c (and_first _ _ one) bits) (choice-wider d.choice (and_second (nat_lt d.when.bit b) _ one))) (cases-wider cases (and_second (case_below b w d) _ h))

  line-wider : (l : Line) → line_below b w l ≡ true → line_below c x l ≡ true
  line-wider (all ls) h = literals-wider ls h
  line-wider (any ls) h = literals-wider ls h
  line-wider (within k lo hi) h = and_both _ _ (lt-wider k w x (and_first _ _ h) words) (and_second (nat_lt k w) _ h)
  line-wider (digit k place) h = and_both _ _ (lt-wider k w x (and_first _ _ h) words) (and_second (nat_lt k w) _ h)
  line-wider (choose cases other) h = and_both _ _ (cases-wider cases (and_first _ _ h)) (choice-wider other (and_second (list_all (case_below b w) cases) _ h))

pub ordered_lines_exist : OrderedLinesExist
ordered_lines_exist E o before line after e =
    line-wider (E.inputs + bit_lines before) (registers E + word_lines before) (bit_count E) (word_count E)
    (omega (arith, ap bit_lines e, bits-append before (line ∷ after)))
    (omega (arith, ap word_lines e, words-append before (line ∷ after)))
    line (o.each before line after e)

-- a line reads what it is below
literals-under : (n : ℕ) (ls : List Literal) (k : ℕ) → list_all (literal_below n) ls ≡ true → some_literal ls k ≡ true → k < n
literals-under n [] k h r = cc
literals-under n (l ∷ ls) k h r = elim (or_cases (nat_eq l.bit k) _ r) [
  | inl e ↦ let s = nat_eq-tells l.bit k e in let b = below l.bit n (and_first _ _ h) in omega arith
  | inr more ↦ literals-under n ls k (and_second (literal_below n l) _ h) more
]

choice-under : (m : ℕ) (c : Choice) (k : ℕ) → choice_below m c ≡ true → choice_reads c k ≡ true → k < m
choice-under m (code n) k h r = cc
choice-under m (word w) k h r = let s = nat_eq-tells w k r in let b = below w m h in omega arith
choice-under m (next w) k h r = let s = nat_eq-tells w k r in let b = below w m h in omega arith

when-under : (n m : ℕ) (cases : List Case) (k : ℕ) → list_all (case_below n m) cases ≡ true → some_when cases k ≡ true → k < n
when-under n m [] k h r = cc
when-under n m (c ∷ cases) k h r = elim (or_cases (nat_eq c.when.bit k) _ r) [
  | inl e ↦ let s = nat_eq-tells c.when.bit k e in let b = below c.when.bit n (and_first _ _ (and_first _ _ h)) in omega arith
  | inr more ↦ when-under n m cases k (and_second (case_below n m c) _ h) more
]

some-under : (n m : ℕ) (cases : List Case) (k : ℕ) → list_all (case_below n m) cases ≡ true → some_choice cases k ≡ true → k < m
some-under n m [] k h r = cc
some-under n m (c ∷ cases) k h r = elim (or_cases (choice_reads c.choice k) _ r) [
  | inl e ↦ choice-under m c.choice k (and_second (nat_lt c.when.bit n) _ (and_first _ _ h)) e
  | inr more ↦ some-under n m cases k (and_second (case_below n m c) _ h) more
]

bit-under : (l : Line) (n m k : ℕ) → line_below n m l ≡ true → line_reads l (bit_item k) ≡ true → k < n
bit-under (all ls) n m k h r = literals-under n ls k h r
bit-under (any ls) n m k h r = literals-under n ls k h r
bit-under (within w lo hi) n m k h r = cc
bit-under (digit w place) n m k h r = cc
bit-under (choose cases other) n m k h r = when-under n m cases k (and_first _ _ h) r

word-under : (l : Line) (n m k : ℕ) → line_below n m l ≡ true → line_reads l (word_item k) ≡ true → k < m
word-under (all ls) n m k h r = cc
word-under (any ls) n m k h r = cc
word-under (within w lo hi) n m k h r = let s = nat_eq-tells w k r in let b = below w m (and_first _ _ h) in omega arith
word-under (digit w place) n m k h r = let s = nat_eq-tells w k r in let b = below w m (and_first _ _ h) in omega arith
word-under (choose cases other) n m k h r = elim (or_cases (some_choice cases k) _ r) [
  | inl s ↦ some-under n m cases k (and_first _ _ h) s
  | inr s ↦ choice-under m other k (and_second (list_all (case_below n m) cases) _ h) s
]

-- numbers in turn
range-lists : (a n k : ℕ) → a ≤ k → k < a + n → lists (range_with_len a n) k ≡ true
range-lists a zero k low high = absurd (omega arith)
range-lists a (suc n) k low high = elim (cases_lt a k) [
  | inl more ↦ or_right (nat_eq a k) _ (range-lists (a + 1) n k (omega arith) (omega arith))
  | inr same ↦ let e : a ≡ k = omega arith in or_left (nat_eq a k) _ (subst (λ (j : ℕ). nat_eq a j ≡ true) e (nat_eq-itself a))
]

range-before : (a n : ℕ) (earlier : List ℕ) (place : ℕ) (later : List ℕ) → range_with_len a n ≡ earlier ++ place ∷ later → (k : ℕ) → a ≤ k → k < place → lists earlier k ≡ true
range-before a zero [] place later e k low high = cc
range-before a zero (q ∷ earlier) place later e k low high = cc
range-before a (suc n) [] place later e k low high = let f : a ≡ place = cc in absurd (omega arith)
range-before a (suc n) (q ∷ earlier) place later e k low high =
    let first : a ≡ q = cc in
    let rest : range_with_len (a + 1) n ≡ earlier ++ place ∷ later = cc in
    elim (cases_lt a k) [
      | inl more ↦ or_right (nat_eq q k) _ (range-before (a + 1) n earlier place later rest k (omega arith) high)
      | inr same ↦ let f : q ≡ k = omega arith in or_left (nat_eq q k) _ (subst (λ (j : ℕ). nat_eq q j ≡ true) f (nat_eq-itself q))
    ]

-- what stands before a line is known there
known-there : (E : Equations) (earlier : List ℕ) (place : ℕ) (line : Line) (x y : Item) → IsOrdered E → ((k : ℕ) → k < place → lists earlier k ≡ true) → Defines E place line x → line_reads line y ≡ true → IsKnown E earlier [] y
known-there E earlier place line x y o listed d r = of_item y r
  where
    fine : line_below (E.inputs + bit_lines d.before) (registers E + word_lines d.before) line ≡ true
    fine = o.each d.before line d.after d.stands

    whole : (front : List Line) (l : Line) (back : List Line) → d.before ≡ front ++ l ∷ back → E.lines ≡ front ++ l ∷ (back ++ line ∷ d.after)
    whole front l back e = d.stands ∙ ap (λ (ls : List Line). ls ++ line ∷ d.after) e ∙ append_assoc front (l ∷ back) (line ∷ d.after)

    of_item : (y : Item) → line_reads line y ≡ true → IsKnown E earlier [] y
    of_item (bit_item k) r = elim (cases_lt k E.inputs) [
      | inl low ↦ input k low
      | inr high ↦
          let under = bit-under line _ _ k fine r in
          let f = find-bit d.before (k - E.inputs) (omega arith) in
          earlier_line (bit_item k) (length f.before) f.line (record { before = f.before; after = f.after ++ line ∷ d.after; stands = whole f.before f.line f.after f.stands; place_is = refl; is = bit-defined E f.before f.line f.one ∙ ap bit_item (omega (arith, f.number)) })
          (listed (length f.before) (omega (arith, ap length f.stands, length-append f.before (f.line ∷ f.after), d.place_is)))
    ]
    of_item (word_item k) r = elim (cases_lt k (registers E)) [
      | inl low ↦ register k low
      | inr high ↦
          let under = word-under line _ _ k fine r in
          let f = find-word d.before (k - registers E) (omega arith) in
          earlier_line (word_item k) (length f.before) f.line (record { before = f.before; after = f.after ++ line ∷ d.after; stands = whole f.before f.line f.after f.stands; place_is = refl; is = word-defined E f.before f.line f.one ∙ ap word_item (omega (arith, f.number)) })
          (listed (length f.before) (omega (arith, ap length f.stands, length-append f.before (f.line ∷ f.after), d.place_is)))
    ]

pub ordered_are_planned : OrderedArePlanned
ordered_are_planned E o = record {
  sized = length-range_with_len 0 (length E.lines);
  each = λ k low. range-lists 0 (length E.lines) k (omega arith) (omega arith);
  known = λ earlier place later line x y e d r. known-there E earlier place line x y o (λ k low. range-before 0 (length E.lines) earlier place later e k (omega arith) low) d r;
  cyclic_bits = record {
    test = λ k. false;
    exact = λ k l. absurd (let z : false ≡ true = subst (λ (ks : List ℕ). lists ks k ≡ true) o.no_locals l in cc);
    is = sym (ap (filter (λ (k : ℕ). false)) o.no_locals);
  };
}
