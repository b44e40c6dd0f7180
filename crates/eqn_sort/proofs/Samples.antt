-- Tests that tell of a small system that it is orderable, and of an order that it is a plan.
use Rattle.std.proofs.Common.{◌≡◌, ℕ, zero, suc, ◌<◌, ◌≤◌, List, [], ◌∷◌, ◌++◌, Bool, true, false, ◌&&◌, ◌||◌, not, nat_eq, nat_lt, nat_le, ◌⊎◌, Some, inl, inr, length, slice_get, take, ap, sym, ◌∙◌, subst, refl, arith, append_assoc}
use Rattle.std.specs.Prelude.{filter}
use Rattle.std.specs.List.{list_all}
use Rattle.std.proofs.lemmas.Bool.Decides.{nat_tests}
use Rattle.std.proofs.lemmas.List.{append-nil}
use Rattle.std.proofs.lemmas.Bool.{cases_lt}
use Rattle.argos_base.specs.Limits as limits
use Rattle.argos_base.specs.SignalSets.{lists}
use Rattle.argos_base.proofs.Bools.{or_cases, or_left, or_right, and_first, and_second}
use Rattle.eqn_core.specs.Chains.{Chain, link, links}
use Rattle.eqn_core.specs.Dependence.{Item, bit_item, word_item, line_reads, some_literal, choice_reads, some_when, some_choice, defined_item, ItemDepends}
use Rattle.eqn_core.specs.Equations.{Literal, Choice, code, word, next, Case, Line, all, any, within, digit, choose, Equations, registers, bit_count, word_count}
use Rattle.eqn_core.specs.Orderable.{DependsPastLocals, IsOrderable}
use Rattle.eqn_core.specs.Ordered.{line_below, all_below, all_between}
use Rattle.eqn_core.specs.Plans.{IsKnown, input, register, earlier_line, IsPlanOf}
use Rattle.eqn_completion.specs.Moving.{line_at, bit_at, word_at}
use Rattle.eqn_completion.proofs.Plans.{item_at, defines-at, line-is}
use Rattle.eqn_sort.specs.inner.Own.{defines_word}
use Rattle.eqn_sort.specs.inner.Samples.{counter, counter_order, chain, chain_order}
use Rattle.eqn_sort.proofs.Loops.{known-wider, no_cycle, ReadsKnown}

equal : (a b : ℕ) → nat_eq a b ≡ true → a ≡ b
equal a b h = grind (arith, nat_tests)

below : (a b : ℕ) → nat_lt a b ≡ true → a < b
below a b h = grind (arith, nat_tests)

within_of : (a b : ℕ) → nat_le a b ≡ true → a ≤ b
within_of a b h = grind (arith, nat_tests)

itself : (a : ℕ) → nat_eq a a ≡ true
itself a = grind (arith, nat_tests)

-- a bit, or a word, is given or defined at one of these places
abbrev known_bit : Equations → List ℕ → ℕ → Bool
known_bit E [] k = nat_lt k E.inputs
known_bit E (p ∷ ps) k = (nat_lt p (length E.lines) && (not (defines_word (line_at E p)) && nat_eq (bit_at E p) k)) || known_bit E ps k

abbrev known_word : Equations → List ℕ → ℕ → Bool
known_word E [] k = nat_lt k (registers E)
known_word E (p ∷ ps) k = (nat_lt p (length E.lines) && (defines_word (line_at E p) && nat_eq (word_at E p) k)) || known_word E ps k

abbrev known_choice : Equations → List ℕ → Choice → Bool
known_choice E ps (code n) = true
known_choice E ps (word w) = known_word E ps w
known_choice E ps (next w) = known_word E ps w

abbrev known_literals : Equations → List ℕ → List Literal → Bool
known_literals E ps [] = true
known_literals E ps (l ∷ ls) = known_bit E ps l.bit && known_literals E ps ls

abbrev known_cases : Equations → List ℕ → List Case → Bool
known_cases E ps [] = true
known_cases E ps (c ∷ cases) = (known_bit E ps c.when.bit && known_choice E ps c.choice) && known_cases E ps cases

-- all that a line reads is
abbrev known_line : Equations → List ℕ → Line → Bool
known_line E ps (all ls) = known_literals E ps ls
known_line E ps (any ls) = known_literals E ps ls
known_line E ps (within w lo hi) = known_word E ps w
known_line E ps (digit w place) = known_word E ps w
known_line E ps (choose cases other) = known_cases E ps cases && known_choice E ps other

abbrev in_turn : Equations → List ℕ → List ℕ → Bool
in_turn E ps [] = true
in_turn E ps (p ∷ order) = known_line E ps (line_at E p) && in_turn E (ps ++ p ∷ []) order

abbrev all_listed : ℕ → List ℕ → Bool
all_listed zero order = true
all_listed (suc n) order = lists order n && all_listed n order

bit-there : (E : Equations) (p k : ℕ) → (not (defines_word (line_at E p)) && nat_eq (bit_at E p) k) ≡ true → item_at E p ≡ bit_item k
bit-there E p k h = of_line (line_at E p) h
  where
    of_line : (l : Line) → (not (defines_word l) && nat_eq (bit_at E p) k) ≡ true → defined_item E (take p E.lines) l ≡ bit_item k
    of_line (all xs) h = ap bit_item (equal (bit_at E p) k h)
    of_line (any xs) h = ap bit_item (equal (bit_at E p) k h)
    of_line (within w lo hi) h = ap bit_item (equal (bit_at E p) k h)
    of_line (digit w place) h = ap bit_item (equal (bit_at E p) k h)
    of_line (choose cases other) h = cc

word-there : (E : Equations) (p k : ℕ) → (defines_word (line_at E p) && nat_eq (word_at E p) k) ≡ true → item_at E p ≡ word_item k
word-there E p k h = of_line (line_at E p) h
  where
    of_line : (l : Line) → (defines_word l && nat_eq (word_at E p) k) ≡ true → defined_item E (take p E.lines) l ≡ word_item k
    of_line (all xs) h = cc
    of_line (any xs) h = cc
    of_line (within w lo hi) h = cc
    of_line (digit w place) h = cc
    of_line (choose cases other) h = ap word_item (equal (word_at E p) k h)

here : (E : Equations) (p : ℕ) (ps : List ℕ) (y : Item) → nat_lt p (length E.lines) ≡ true → item_at E p ≡ y → IsKnown E (p ∷ ps) [] y
here E p ps y low e = subst (λ (z : Item). IsKnown E (p ∷ ps) [] z) e (earlier_line (item_at E p) p (line_at E p) (defines-at E p (below p (length E.lines) low)) (or_left (nat_eq p p) _ (itself p)))

bit-known : (E : Equations) (ps : List ℕ) (k : ℕ) → known_bit E ps k ≡ true → IsKnown E ps [] (bit_item k)
bit-known E [] k h = input k (below k E.inputs h)
bit-known E (p ∷ ps) k h = elim (or_cases (nat_lt p (length E.lines) && (not (defines_word (line_at E p)) && nat_eq (bit_at E p) k)) _ h) [
  | inl one ↦ here E p ps (bit_item k) (and_first _ _ one) (bit-there E p k (and_second (nat_lt p (length E.lines)) _ one))
  | inr rest ↦ known-wider E ps (p ∷ ps) (bit_item k) (λ j l. or_right (nat_eq p j) _ l) (bit-known E ps k rest)
]

word-known : (E : Equations) (ps : List ℕ) (k : ℕ) → known_word E ps k ≡ true → IsKnown E ps [] (word_item k)
word-known E [] k h = register k (below k (registers E) h)
word-known E (p ∷ ps) k h = elim (or_cases (nat_lt p (length E.lines) && (defines_word (line_at E p) && nat_eq (word_at E p) k)) _ h) [
  | inl one ↦ here E p ps (word_item k) (and_first _ _ one) (word-there E p k (and_second (nat_lt p (length E.lines)) _ one))
  | inr rest ↦ known-wider E ps (p ∷ ps) (word_item k) (λ j l. or_right (nat_eq p j) _ l) (word-known E ps k rest)
]

module _ (E : Equations) (ps : List ℕ) where
  at-bit : (j k : ℕ) → nat_eq j k ≡ true → known_bit E ps j ≡ true → IsKnown E ps [] (bit_item k)
  at-bit j k e h = subst (λ (n : ℕ). IsKnown E ps [] (bit_item n)) (equal j k e) (bit-known E ps j h)

  at-word : (j k : ℕ) → nat_eq j k ≡ true → known_word E ps j ≡ true → IsKnown E ps [] (word_item k)
  at-word j k e h = subst (λ (n : ℕ). IsKnown E ps [] (word_item n)) (equal j k e) (word-known E ps j h)

  literals-known : (ls : List Literal) (k : ℕ) → known_literals E ps ls ≡ true → some_literal ls k ≡ true → IsKnown E ps [] (bit_item k)
  literals-known [] k h r = cc
  literals-known (l ∷ ls) k h r = elim (or_cases (nat_eq l.bit k) _ r) [
    | inl e ↦ at-bit l.bit k e (and_first _ _ h)
    | inr s ↦ literals-known ls k (and_second (known_bit E ps l.bit) _ h) s
  ]

  choice-known : (c : Choice) (k : ℕ) → known_choice E ps c ≡ true → choice_reads c k ≡ true → IsKnown E ps [] (word_item k)
  choice-known (code n) k h r = cc
  choice-known (word w) k h r = at-word w k r h
  choice-known (next w) k h r = at-word w k r h

  when-known : (cases : List Case) (k : ℕ) → known_cases E ps cases ≡ true → some_when cases k ≡ true → IsKnown E ps [] (bit_item k)
  when-known [] k h r = cc
  when-known (c ∷ cases) k h r = elim (or_cases (nat_eq c.when.bit k) _ r) [
    | inl e ↦ at-bit c.when.bit k e (and_first _ _ (and_first _ _ h))
    | inr s ↦ when-known cases k (and_second (known_bit E ps c.when.bit && known_choice E ps c.choice) _ h) s
  ]

  some-known : (cases : List Case) (k : ℕ) → known_cases E ps cases ≡ true → some_choice cases k ≡ true → IsKnown E ps [] (word_item k)
  some-known [] k h r = cc
  some-known (c ∷ cases) k h r = elim (or_cases (choice_reads c.choice k) _ r) [
    | inl e ↦ choice-known c.choice k (and_second (known_bit E ps c.when.bit) _ (and_first _ _ h)) e
    | inr s ↦ some-known cases k (and_second (known_bit E ps c.when.bit && known_choice E ps c.choice) _ h) s
  ]

  line-known : (l : Line) (y : Item) → known_line E ps l ≡ true → line_reads l y ≡ true → IsKnown E ps [] y
  line-known (all ls) (bit_item k) h r = literals-known ls k h r
  line-known (all ls) (word_item k) h r = cc
  line-known (any ls) (bit_item k) h r = literals-known ls k h r
  line-known (any ls) (word_item k) h r = cc
  line-known (within w lo hi) (bit_item k) h r = cc
  line-known (within w lo hi) (word_item k) h r = at-word w k r h
  line-known (digit w place) (bit_item k) h r = cc
  line-known (digit w place) (word_item k) h r = at-word w k r h
  line-known (choose cases other) (bit_item k) h r = when-known cases k (and_first _ _ h) r
  line-known (choose cases other) (word_item k) h r = elim (or_cases (some_choice cases k) _ r) [
    | inl s ↦ some-known cases k (and_first _ _ h) s
    | inr s ↦ choice-known other k (and_second (known_cases E ps cases) _ h) s
  ]

turn-known : (E : Equations) (ps earlier : List ℕ) (p : ℕ) (later : List ℕ) → in_turn E ps (earlier ++ p ∷ later) ≡ true → known_line E (ps ++ earlier) (line_at E p) ≡ true
turn-known E ps [] p later h = subst (λ (qs : List ℕ). known_line E qs (line_at E p) ≡ true) (sym (append-nil ps)) (and_first _ _ h)
turn-known E ps (q ∷ earlier) p later h =
    subst (λ (qs : List ℕ). known_line E qs (line_at E p) ≡ true) (append_assoc ps (q ∷ []) earlier)
    (turn-known E (ps ++ q ∷ []) earlier p later (and_second (known_line E ps (line_at E q)) _ h))

listed : (n : ℕ) (order : List ℕ) → all_listed n order ≡ true → (k : ℕ) → k < n → lists order k ≡ true
listed zero order h k low = absurd (omega arith)
listed (suc n) order h k low = elim (last k n low) [
  | inl e ↦ ap (lists order) e ∙ and_first _ _ h
  | inr less ↦ listed n order (and_second (lists order n) _ h) k less
]
  where
    last : (k n : ℕ) → k < suc n → (k ≡ n) ⊎ (k < n)
    last k n h = elim (cases_lt k n) [ inl less ↦ inr less | inr more ↦ inl (omega arith) ]

filter-none : (xs : List ℕ) → [] ≡ filter (λ (k : ℕ). false) xs
filter-none [] = refl
filter-none (x ∷ xs) = filter-none xs

-- what choices of a system without next words of words read
abbrev low_choice : ℕ → Choice → Bool
low_choice r (code n) = true
low_choice r (word w) = nat_lt w r
low_choice r (next w) = nat_lt w r

abbrev low_cases : ℕ → List Case → Bool
low_cases r [] = true
low_cases r (c ∷ cases) = low_choice r c.choice && low_cases r cases

abbrev low_line : ℕ → Line → Bool
low_line r (choose cases other) = low_cases r cases && low_choice r other
low_line r _ = true

choice-low : (r : ℕ) (c : Choice) (w : ℕ) → low_choice r c ≡ true → choice_reads c w ≡ true → w < r
choice-low r (code n) w h e = cc
choice-low r (word v) w h e = let f = equal v w e in let l = below v r h in omega arith
choice-low r (next v) w h e = let f = equal v w e in let l = below v r h in omega arith

cases-low : (r : ℕ) (cases : List Case) (w : ℕ) → low_cases r cases ≡ true → some_choice cases w ≡ true → w < r
cases-low r [] w h e = cc
cases-low r (c ∷ cases) w h e = elim (or_cases (choice_reads c.choice w) _ e) [
  | inl one ↦ choice-low r c.choice w (and_first _ _ h) one
  | inr more ↦ cases-low r cases w (and_second (low_choice r c.choice) _ h) more
]

-- a test that all lines pass, one of them passes
one-passes : (test : Line → Bool) (ls before : List Line) (l : Line) (after : List Line) → list_all test ls ≡ true → ls ≡ before ++ l ∷ after → test l ≡ true
one-passes test ls before l after h e = at before (subst (λ (xs : List Line). list_all test xs ≡ true) e h)
  where
    at : (before : List Line) → list_all test (before ++ l ∷ after) ≡ true → test l ≡ true
    at [] h = and_first _ _ h
    at (x ∷ before) h = at before (and_second (test x) _ h)

-- the whole test
abbrev pub is_sample : Equations → List ℕ → Bool
is_sample E order =
    nat_eq (length order) (length E.lines) && (all_listed (length E.lines) order && (in_turn E [] order && (list_all (low_line (registers E)) E.lines && (list_all (line_below (bit_count E) (word_count E)) E.lines
    && (nat_eq (length E.next) (registers E) && (all_between (registers E) (word_count E) E.next && (all_below (bit_count E) E.outputs && (all_below (bit_count E) E.locals && (nat_le (length E.locals) 1
    && (nat_le (registers E) limits.register_limit && (nat_le E.inputs limits.signal_limit && (nat_le (length E.outputs) limits.signal_limit && nat_le (length E.lines) limits.plan_line_limit))))))))))))

pub record IsSample (E : Equations) (order : List ℕ) : Type 0 where
  pub orderable : IsOrderable E
  pub plan : IsPlanOf E order []

pub sample : (E : Equations) (order : List ℕ) → is_sample E order ≡ true → IsSample E order
sample E order t0 =
    let t1 = and_second (nat_eq (length order) (length E.lines)) _ t0 in
    let t2 = and_second (all_listed (length E.lines) order) _ t1 in
    let t3 = and_second (in_turn E [] order) _ t2 in
    let t4 = and_second (list_all (low_line (registers E)) E.lines) _ t3 in
    let t5 = and_second (list_all (line_below (bit_count E) (word_count E)) E.lines) _ t4 in
    let t6 = and_second (nat_eq (length E.next) (registers E)) _ t5 in
    let t7 = and_second (all_between (registers E) (word_count E) E.next) _ t6 in
    let t8 = and_second (all_below (bit_count E) E.outputs) _ t7 in
    let t9 = and_second (all_below (bit_count E) E.locals) _ t8 in
    let t10 = and_second (nat_le (length E.locals) 1) _ t9 in
    let t11 = and_second (nat_le (registers E) limits.register_limit) _ t10 in
    let t12 = and_second (nat_le E.inputs limits.signal_limit) _ t11 in
    let each = listed (length E.lines) order (and_first _ _ t1) in
    let reads : ReadsKnown E order = λ earlier p later l x y e d r.
    line-known E earlier l y (subst (λ (k : Line). known_line E earlier k ≡ true) (sym (line-is E p l x d)) (turn-known E [] earlier p later (subst (λ (o : List ℕ). in_turn E [] o ≡ true) e (and_first _ _ t2)))) r in
    let loops = no_cycle E order reads each in
    record {
      orderable = record {
        cycles = λ k c. loops (bit_item k) (past (bit_item k) (bit_item k) c);
        chooses = λ before cases other after w e r. low cases other w (one-passes (low_line (registers E)) E.lines before (choose cases other) after (and_first _ _ t3) e) r;
        each = λ before l after e. one-passes (line_below (bit_count E) (word_count E)) E.lines before l after (and_first _ _ t4) e;
        next_sized = equal _ _ (and_first _ _ t5);
        next_exist = and_first _ _ t6;
        outputs_exist = and_first _ _ t7;
        locals_exist = and_first _ _ t8;
        locals_once = λ j k x e f. once E.locals j k x (within_of _ _ (and_first _ _ t9)) e f;
        register_limit = within_of _ _ (and_first _ _ t10);
        input_limit = within_of _ _ (and_first _ _ t11);
        output_limit = within_of _ _ (and_first _ _ t12);
        line_limit = within_of _ _ (and_second (nat_le (length E.outputs) limits.signal_limit) _ t12);
      };
      plan = record {
        sized = equal _ _ (and_first _ _ t0);
        each = each;
        known = reads;
        cyclic_bits = record { test = λ k. false; exact = λ k l. (λ e. cc, λ c. absurd (loops (bit_item k) c)); is = filter-none E.locals };
      };
    }
  where
    past : (x y : Item) → Chain (DependsPastLocals E) x y → Chain (ItemDepends E) x y
    past x y (link a b d) = link a b d.depends
    past x y (links a b c d more) = links a b c d.depends (past b c more)

    low : (cases : List Case) (other : Choice) (w : ℕ) → low_line (registers E) (choose cases other) ≡ true → line_reads (choose cases other) (word_item w) ≡ true → w < registers E
    low cases other w h r = elim (or_cases (some_choice cases w) _ r) [
      | inl s ↦ cases-low (registers E) cases w (and_first _ _ h) s
      | inr s ↦ choice-low (registers E) other w (and_second (low_cases (registers E) cases) _ h) s
    ]

    once : (xs : List ℕ) (j k x : ℕ) → length xs ≤ 1 → slice_get xs j ≡ Some x → slice_get xs k ≡ Some x → j ≡ k
    once [] j k x h e f = cc
    once (a ∷ []) zero zero x h e f = refl
    once (a ∷ []) zero (suc k) x h e f = cc
    once (a ∷ []) (suc j) k x h e f = cc
    once (a ∷ b ∷ xs) j k x h e f = absurd (omega arith)

-- the two samples
pub counter_is_sample : IsSample counter counter_order
counter_is_sample = sample counter counter_order refl

pub chain_is_sample : IsSample chain chain_order
chain_is_sample = sample chain chain_order refl

-- a system with these equations and an order like this one
pub sample_there : (E F : Equations) (order order' : List ℕ) → IsSample F order' → E ≡ F → order ≡ order' → IsSample E order
sample_there E F order order' s e f = subst (λ (G : Equations). IsSample G order) (sym e) (subst (λ (o : List ℕ). IsSample F o) (sym f) s)
