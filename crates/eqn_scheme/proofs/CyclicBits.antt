-- The bit of a local depends on itself exactly where the local does.
use Rattle.std.proofs.Common.{◌≡◌, ℕ, zero, suc, ◌+◌, ◌-◌, ◌<◌, ◌≤◌, List, [], ◌∷◌, ◌++◌, Bool, true, false, ◌&&◌, ◌||◌, nat_eq, nat_lt, nat_le, IsTrue, refl, sym, ap, ◌∙◌, ◌⊎◌, inl, inr, subst, arith, length, map, replicate, append_assoc}
use Rattle.std.specs.Prelude.{slice_index_or, flat_map, ◌↔◌}
use Rattle.std.specs.List.{list_any}
use Rattle.std.proofs.lemmas.Bool.Decides.{nat_tests}
use Rattle.std.proofs.lemmas.List.{get_or_append_left}
use Rattle.argos_base.specs.SignalSets.{set_where}
use Rattle.argos_base.proofs.Bools.{true_or_false, or_cases, or_left, or_right, and_first, and_second}
use Rattle.argos_base.proofs.SetLemmas.{length-set_where, has-set_where}
use Rattle.argos_core.specs.Automata.{register_count}
use Rattle.argos_core.specs.Modules.{IsModule, scope_of}
use Rattle.argos_core.specs.Process.{PlainModule}
use Rattle.argos_core.specs.Reactions.{input_count, output_count, signal_count}
use Rattle.argos_core.proofs.Zeros.{length-zeros}
use Rattle.eqn_core.specs.Equations.{Literal, Case, Choice, code, word, next, Line, within, digit, choose, Equations, registers, bits_of_line, words_of_line, bit_lines, word_lines}
use Rattle.eqn_core.specs.Equations as lines
use Rattle.eqn_core.specs.inner.LineValues.{known}
use Rattle.eqn_core.specs.inner.OrderTest.{lines_in_order}
use Rattle.eqn_core.specs.Solutions.{Values, bit_of, is_true, defined_bits, Completes}
use Rattle.eqn_core.proofs.Evaluation.{evaluated, evaluated-completes}
use Rattle.eqn_scheme.specs.Scheme.{plus, minus, FireBit, for_signal, emitting, signal_lines, inner_lines, fires_of_module, process_bits, equations_of}
use Rattle.eqn_core.specs.Chains.{Chain, link, links}
use Rattle.eqn_core.specs.Dependence.{Item, bit_item, word_item, some_literal, line_reads, defined_item, ItemDepends, IsCyclicBit}
use Rattle.eqn_scheme.specs.SignalDependence.{DependsDirectly, IsCyclic}
use Rattle.eqn_scheme.specs.Wired.{Fire, fires_emit}
use Rattle.eqn_scheme.proofs.Counting.{bits-append, bits-process}
use Rattle.eqn_scheme.proofs.Cycles.{Left, Right, which, signal_line, emitting_between, process_between, line_at, line_read, found, ended}
use Rattle.eqn_scheme.proofs.Depending.{supports_depend, depend_supports, process_emittable}
use Rattle.eqn_scheme.proofs.Fine.{AllFine, IsLine, AreLines}
use Rattle.eqn_scheme.proofs.Listing.{below_or_not}
use Rattle.eqn_scheme.proofs.Meaning.{reading}
use Rattle.eqn_core.proofs.LinePlaces.{at_place, completes_at, next_bit, next_bit-is}
use Rattle.eqn_scheme.proofs.Supports.{some_of, IsOr, AreOr, positives, or_line, or_at, supports, process_support}
use Rattle.eqn_scheme.proofs.System.{IsInner, inner_fine, in_order, emitting-is, bits-signals}
use Rattle.eqn_scheme.proofs.WiredReactions.{read_inputs}

module _ (n one R : ℕ) (low : n ≤ one) (Signal : ℕ → Type 0) where
  positives_fine : (ls : List Literal) (b : ℕ) → AllFine n one R low Signal b ls → AllFine n one R low Signal b (positives ls)
  positives_fine [] b h = tt
  positives_fine (l ∷ ls) b h = (h.0, positives_fine ls b h.1)

  or_fine : (ls : List Line) (b : ℕ) → AreLines n one R low Signal b ls → AreLines n one R low Signal b (map or_line ls)
  or_fine [] b h = tt
  or_fine (lines.all ls ∷ more) b h = (positives_fine ls b h.0, or_fine more (suc b) h.1)
  or_fine (lines.any ls ∷ more) b h = (positives_fine ls b h.0, or_fine more (suc b) h.1)
  or_fine (within x lo hi ∷ more) b h = (tt, or_fine more (suc b) h.1)
  or_fine (digit x place ∷ more) b h = (tt, or_fine more (suc b) h.1)
  or_fine (choose cases other ∷ more) b h = ((tt, omega arith), or_fine more b h.1)

-- literals that are read
some_from : (s : Values) (ls : List Literal) (k : ℕ) → some_literal ls k ≡ true → bit_of s k ≡ true → some_of s ls ≡ true
some_from s [] k h b = cc
some_from s (l ∷ ls) k h b = elim (or_cases (nat_eq l.bit k) (some_literal ls k) h) [
  | inl e ↦ or_left (bit_of s l.bit) (some_of s ls) (ap (bit_of s) (equal l.bit k e) ∙ b)
  | inr e ↦ or_right (bit_of s l.bit) (some_of s ls) (some_from s ls k e b)
]
  where
    equal : (a b : ℕ) → nat_eq a b ≡ true → a ≡ b
    equal a b h = grind (arith, nat_tests)

record ReadBit (s : Values) (ls : List Literal) : Type 0 where
  bit : ℕ
  reads : some_literal ls bit ≡ true
  holds : bit_of s bit ≡ true

some_to : (s : Values) (ls : List Literal) → some_of s ls ≡ true → ReadBit s ls
some_to s [] h = cc
some_to s (l ∷ ls) h = elim (or_cases (bit_of s l.bit) (some_of s ls) h) [
  | inl e ↦ record { bit = l.bit; reads = or_left (nat_eq l.bit l.bit) (some_literal ls l.bit) (itself l.bit); holds = e }
  | inr e ↦ let r = some_to s ls e in record { bit = r.bit; reads = or_right (nat_eq l.bit r.bit) (some_literal ls r.bit) r.reads; holds = r.holds }
]
  where
    itself : (k : ℕ) → nat_eq k k ≡ true
    itself k = grind (arith, nat_tests)

for_positive : (s : Values) (bit : ℕ) (outs : List ℕ) (k : ℕ) → some_of s (for_signal bit outs k) ≡ list_any (is_true s) (for_signal bit outs k)
for_positive s bit [] k = refl
for_positive s bit (o ∷ outs) k = elim (true_or_false (nat_eq o k)) [
  | inl y ↦ rw y (ap (λ b. bit_of s bit || b) (for_positive s bit outs k))
  | inr y ↦ rw y (for_positive s bit outs k)
]

joined : (a b c : Bool) → ((a || b) || c) ≡ (a || (b || c))
joined true b c = refl
joined false b c = refl

some_of-append : (s : Values) (xs ys : List Literal) → some_of s (xs ++ ys) ≡ (some_of s xs || some_of s ys)
some_of-append s [] ys = refl
some_of-append s (x ∷ xs) ys = ap (λ b. bit_of s x.bit || b) (some_of-append s xs ys) ∙ sym (joined (bit_of s x.bit) (some_of s xs) (some_of s ys))

any-append : (s : Values) (xs ys : List Literal) → list_any (is_true s) (xs ++ ys) ≡ (list_any (is_true s) xs || list_any (is_true s) ys)
any-append s [] ys = refl
any-append s (x ∷ xs) ys = ap (λ b. is_true s x || b) (any-append s xs ys) ∙ sym (joined (is_true s x) (list_any (is_true s) xs) (list_any (is_true s) ys))

emitting_positive : (s : Values) (fs : List FireBit) (k : ℕ) → some_of s (emitting fs k) ≡ list_any (is_true s) (emitting fs k)
emitting_positive s [] k = refl
emitting_positive s (f ∷ fs) k =
    some_of-append s (for_signal f.bit f.outs k) (emitting fs k)
    ∙ ap (λ b. b || some_of s (emitting fs k)) (for_positive s f.bit f.outs k)
    ∙ ap (λ b. list_any (is_true s) (for_signal f.bit f.outs k) || b) (emitting_positive s fs k)
    ∙ sym (any-append s (for_signal f.bit f.outs k) (emitting fs k))

-- the line that defines a bit
record LineOfBit (ls : List Line) (j : ℕ) : Type 0 where
  before : List Line
  line : Line
  after : List Line
  is : ls ≡ before ++ line ∷ after
  number : bit_lines before ≡ j
  one_bit : bits_of_line line ≡ 1

bits_cases : (l : Line) → (bits_of_line l ≡ 1) ⊎ (bits_of_line l ≡ 0)
bits_cases (lines.all ls) = inl refl
bits_cases (lines.any ls) = inl refl
bits_cases (within x lo hi) = inl refl
bits_cases (digit x place) = inl refl
bits_cases (choose cases other) = inr refl

line_of_bit : (ls : List Line) (j : ℕ) → j < bit_lines ls → LineOfBit ls j
line_of_bit [] j h = absurd (omega arith)
line_of_bit (l ∷ ls) zero h = elim (bits_cases l) [
  | inl e ↦ record { before = []; line = l; after = ls; is = refl; number = refl; one_bit = e }
  | inr e ↦ let r = line_of_bit ls zero (omega (arith, e)) in record { before = l ∷ r.before; line = r.line; after = r.after; is = ap (λ (z : List Line). l ∷ z) r.is; number = omega (arith, r.number, e); one_bit = r.one_bit }
]
line_of_bit (l ∷ ls) (suc j) h = elim (bits_cases l) [
  | inl e ↦ let r = line_of_bit ls j (omega (arith, e)) in record { before = l ∷ r.before; line = r.line; after = r.after; is = ap (λ (z : List Line). l ∷ z) r.is; number = omega (arith, r.number, e); one_bit = r.one_bit }
  | inr e ↦ let r = line_of_bit ls (suc j) (omega (arith, e)) in record { before = l ∷ r.before; line = r.line; after = r.after; is = ap (λ (z : List Line). l ∷ z) r.is; number = omega (arith, r.number, e); one_bit = r.one_bit }
]

or_line_at : (s : Values) (more : List Line) (line : Line) (after : List Line) (b : ℕ) → AreOr s b (more ++ line ∷ after) → IsOr s (b + bit_lines more) line
or_line_at s [] line after b h = let e : b ≡ b + 0 = omega arith in subst (λ k. IsOr s k line) e h.0
or_line_at s (x ∷ more) line after b h = let e : next_bit b x + bit_lines more ≡ b + bit_lines (x ∷ more) = omega (arith, next_bit-is b x) in subst (λ k. IsOr s k line) e (or_line_at s more line after (next_bit b x) h.1)

record ReadItem (s : Values) (line : Line) : Type 0 where
  bit : ℕ
  reads : line_reads line (bit_item bit) ≡ true
  holds : bit_of s bit ≡ true

read_by : (s : Values) (line : Line) (b : ℕ) → bits_of_line line ≡ 1 → IsOr s b line → bit_of s b ≡ true → ReadItem s line
read_by s (lines.all ls) b e h t = let r = some_to s ls (sym h ∙ t) in record { bit = r.bit; reads = r.reads; holds = r.holds }
read_by s (lines.any ls) b e h t = let r = some_to s ls (sym h ∙ t) in record { bit = r.bit; reads = r.reads; holds = r.holds }
read_by s (within x lo hi) b e h t = cc
read_by s (digit x place) b e h t = cc
read_by s (choose cases other) b e h t = absurd (omega (arith, e))

closes : (s : Values) (line : Line) (b k : ℕ) → IsOr s b line → line_reads line (bit_item k) ≡ true → bit_of s k ≡ true → bits_of_line line ≡ 1 → bit_of s b ≡ true
closes s (lines.all ls) b k h r t e = h ∙ some_from s ls k r t
closes s (lines.any ls) b k h r t e = h ∙ some_from s ls k r t
closes s (within x lo hi) b k h r t e = cc
closes s (digit x place) b k h r t e = cc
closes s (choose cases other) b k h r t e = absurd (omega (arith, e))

-- the line of a signal
record SignalSplit (fires : List FireBit) (k more j : ℕ) : Type 0 where
  before : List Line
  after : List Line
  is : signal_lines fires k more ≡ before ++ lines.any (emitting fires j) ∷ after
  number : k + bit_lines before ≡ j

signal_split : (fires : List FireBit) (k more j : ℕ) → k ≤ j → j < k + more → SignalSplit fires k more j
signal_split fires k zero j low high = absurd (omega arith)
signal_split fires k (suc more) j low high = elim (here_or_later k j low) [
  | inl e ↦ record { before = []; after = signal_lines fires (suc k) more; is = ap (λ (x : ℕ). lines.any (emitting fires x) ∷ signal_lines fires (suc k) more) e; number = omega arith }
  | inr later ↦ let r = signal_split fires (suc k) more j later (omega arith) in record { before = lines.any (emitting fires k) ∷ r.before; after = r.after; is = ap (λ (l : List Line). lines.any (emitting fires k) ∷ l) r.is; number = omega (arith, r.number) }
]
  where
    here_or_later : (k j : ℕ) → k ≤ j → (k ≡ j) ⊎ (suc k ≤ j)
    here_or_later k j h = grind arith

defined_bit : (E : Equations) (before : List Line) (line : Line) → bits_of_line line ≡ 1 → defined_item E before line ≡ bit_item (E.inputs + bit_lines before)
defined_bit E before (lines.all ls) e = refl
defined_bit E before (lines.any ls) e = refl
defined_bit E before (within x lo hi) e = refl
defined_bit E before (digit x place) e = refl
defined_bit E before (choose cases other) e = absurd (omega (arith, e))

defines_bit : (E : Equations) (before : List Line) (line : Line) (k : ℕ) → defined_item E before line ≡ bit_item k → (bits_of_line line ≡ 1) × (E.inputs + bit_lines before ≡ k)
defines_bit E before (lines.all ls) k e = (refl, cc)
defines_bit E before (lines.any ls) k e = (refl, cc)
defines_bit E before (within x lo hi) k e = (refl, cc)
defines_bit E before (digit x place) k e = (refl, cc)
defines_bit E before (choose cases other) k e = cc

chain_append : {A : Type 0} (Rel : A → A → Type 0) (x y z : A) → Chain Rel x y → Chain Rel y z → Chain Rel x z
chain_append Rel x y z (link _ _ r) c = links x y z r c
chain_append Rel x y z (links _ w _ r d) c = links x w z r (chain_append Rel w y z d c)

module _ (P : PlainModule) (is : IsModule P) where
  abbrev count : ℕ
  count = output_count P + length P.locals

  abbrev front : List Line
  front = signal_lines (fires_of_module P) (input_count P) count

  -- the values that tell which bits depend on signal y
  abbrev given : ℕ → Values
  given y = known (set_where (signal_count P) (λ k. nat_eq k y)) (replicate (register_count P.process) 0)

  abbrev values : ℕ → Values
  values y = evaluated (map or_line (inner_lines P)) (given y)

  given_bits : (y : ℕ) → length (given y).bits ≡ signal_count P
  given_bits y = length-set_where (signal_count P) (λ k. nat_eq k y)

  given_words : (y : ℕ) → length (given y).words ≡ register_count P.process
  given_words y = length-zeros (register_count P.process)

  completes : (y : ℕ) → Completes (map or_line (inner_lines P)) (given y) (values y)
  completes y =
      let n = signal_count P in
      let R = register_count P.process in
      evaluated-completes (map or_line (inner_lines P)) (given y)
      (subst (λ k. IsTrue (lines_in_order k (length (given y).words) (map or_line (inner_lines P)))) (sym (given_bits y))
      (subst (λ k. IsTrue (lines_in_order n k (map or_line (inner_lines P)))) (sym (given_words y))
      (in_order n n R (omega arith) (IsInner P) (map or_line (inner_lines P)) n R (omega arith) (or_fine n n R (omega arith) (IsInner P) (inner_lines P) n (inner_fine P is)))))

  are_or : (y : ℕ) → AreOr (values y) (signal_count P) (inner_lines P)
  are_or y = or_at (values y) (inner_lines P) (signal_count P) (register_count P.process) (at_place (values y) (length (given y).bits) (signal_count P) (length (given y).words) (register_count P.process) (map or_line (inner_lines P)) (given_bits y) (given_words y) (completes_at (values y) (map or_line (inner_lines P)) (given y).bits (given y).words (completes y).bits (completes y).words))

  signal_value : (y k : ℕ) → k < signal_count P → bit_of (values y) k ≡ nat_eq k y
  signal_value y k below = ap (λ (l : List Bool). slice_index_or l k false) (completes y).bits ∙ get_or_append_left (given y).bits (flat_map (defined_bits (values y)) (map or_line (inner_lines P))) false k (omega (arith, given_bits y)) ∙ has-set_where (signal_count P) (λ j. nat_eq j y) k below

  itself : (k : ℕ) → nat_eq k k ≡ true
  itself k = grind (arith, nat_tests)

  equal : (a b : ℕ) → nat_eq a b ≡ true → a ≡ b
  equal a b h = grind (arith, nat_tests)

  fires_are : (y : ℕ) → reading (values y) (fires_of_module P) ≡ supports y false P.process
  fires_are y =
      let n = signal_count P in
      let a = are_or y in
      process_support (values y) n n y a.0 (signal_value y) P.process (scope_of P) (suc n) 0 (plus n) (minus n) (minus n) false (λ k h. let below = read_inputs P k h in omega arith) (λ k l. (is.locals_alone k l).1) is.scoped a.0 a.1

  -- a signal's line reads a bit that depends on y exactly where the signal depends directly on y
  line_depends : (x y j : ℕ) → some_literal (emitting (fires_of_module P) x) j ≡ true → bit_of (values y) j ≡ true → DependsDirectly P x y
  line_depends x y j r t =
      supports_depend P x y (ap (λ (l : List Fire). fires_emit l x) (sym (fires_are y)) ∙ sym (emitting-is (values y) (fires_of_module P) x) ∙ sym (emitting_positive (values y) (fires_of_module P) x) ∙ some_from (values y) (emitting (fires_of_module P) x) j r t)

  depends_line : (x y : ℕ) → DependsDirectly P x y → ReadBit (values y) (emitting (fires_of_module P) x)
  depends_line x y d =
      some_to (values y) (emitting (fires_of_module P) x) (emitting_positive (values y) (fires_of_module P) x ∙ emitting-is (values y) (fires_of_module P) x ∙ ap (λ (l : List Fire). fires_emit l x) (fires_are y) ∙ depend_supports P x y d)

  inner_count : bit_lines (inner_lines P) ≡ suc (process_bits P.process)
  inner_count = let n = signal_count P in omega (arith, bits-process P.process n (suc n) 0 (plus n) (minus n) (minus n))

  -- from each bit that depends on y a chain leads there
  reach : (y fuel b : ℕ) → signal_count P ≤ b → b < signal_count P + fuel → b < signal_count P + bit_lines (inner_lines P) → bit_of (values y) b ≡ true → Chain (ItemDepends (equations_of P)) (bit_item b) (bit_item y)
  reach y zero b low room high t = absurd (omega arith)
  reach y (suc fuel) b low room high t =
      let n = signal_count P in
      let R = register_count P.process in
      let l = line_of_bit (inner_lines P) (b - n) (omega arith) in
      let place : n + bit_lines l.before ≡ b = omega (arith, l.number) in
      let or_here : IsOr (values y) b l.line = subst (λ k. IsOr (values y) k l.line) place (or_line_at (values y) l.before l.line l.after n (subst (λ (z : List Line). AreOr (values y) n z) l.is (are_or y))) in
      let r = read_by (values y) l.line b l.one_bit or_here t in
      let fine_here : IsLine n n R (omega arith) (IsInner P) b l.line = subst (λ k. IsLine n n R (omega arith) (IsInner P) k l.line) place (line_at n n R (omega arith) (IsInner P) l.before l.line l.after n (subst (λ (z : List Line). AreLines n n R (omega arith) (IsInner P) n z) l.is (inner_fine P is))) in
      let allowed : (r.bit < b) × (r.bit < n → IsInner P r.bit) = line_read n n R (omega arith) (IsInner P) l.line b (bit_item r.bit) fine_here r.reads in
      let bits_before : bit_lines (front ++ l.before) ≡ count + bit_lines l.before = bits-append front l.before ∙ omega (arith, bits-signals (fires_of_module P) (input_count P) count) in
      let number : input_count P + bit_lines (front ++ l.before) ≡ b = omega (arith, bits_before, place) in
      let depends : ItemDepends (equations_of P) (bit_item b) (bit_item r.bit) = record {
        place = length (front ++ l.before);
        line = l.line;
        defines = record { before = front ++ l.before; after = l.after; stands = ap (λ (z : List Line). front ++ z) l.is ∙ sym (append_assoc front l.before (l.line ∷ l.after)); place_is = refl; is = defined_bit (equations_of P) (front ++ l.before) l.line l.one_bit ∙ ap bit_item number };
        reads = r.reads;
      }
      in
      elim (below_or_not r.bit n) [
        | inl below ↦ let same : r.bit ≡ y = equal r.bit y (sym (signal_value y r.bit below) ∙ r.holds) in link (bit_item b) (bit_item y) (subst (λ k. ItemDepends (equations_of P) (bit_item b) (bit_item k)) same depends)
        | inr above ↦ links (bit_item b) (bit_item r.bit) (bit_item y) depends (reach y fuel r.bit above (omega (arith, allowed.0)) (omega (arith, allowed.0)) r.holds)
      ]

  -- what depends on something is emitted
  emitted_range : (x y : ℕ) → DependsDirectly P x y → (input_count P ≤ x) × (x < signal_count P)
  emitted_range x y d = elim (process_emittable x y P.process (scope_of P) false is.scoped (depend_supports P x y d)) [
    | inl e ↦ elim (or_cases (nat_le (input_count P) x && nat_lt x (input_count P + output_count P)) false e) [
      | inl f ↦ let low = least (input_count P) x (and_first (nat_le (input_count P) x) (nat_lt x (input_count P + output_count P)) f) in let high = less x (input_count P + output_count P) (and_second (nat_le (input_count P) x) (nat_lt x (input_count P + output_count P)) f) in (low, omega arith)
      | inr f ↦ cc
    ]
    | inr l ↦ let range = is.locals_alone x l in (omega (arith, range.0), range.1)
  ]
    where
      least : (a b : ℕ) → nat_le a b ≡ true → a ≤ b
      least a b h = grind (arith, nat_tests)

      less : (a b : ℕ) → nat_lt a b ≡ true → a < b
      less a b h = grind (arith, nat_tests)

  direct_chain : (x y : ℕ) → DependsDirectly P x y → Chain (ItemDepends (equations_of P)) (bit_item x) (bit_item y)
  direct_chain x y d =
      let n = signal_count P in
      let range = emitted_range x y d in
      let r = depends_line x y d in
      let between = emitting_between (fires_of_module P) (suc n) (suc n + process_bits P.process) x r.bit (process_between P.process (suc n)) r.reads in
      let l = signal_split (fires_of_module P) (input_count P) count x range.0 (omega (arith, range.1)) in
      let depends : ItemDepends (equations_of P) (bit_item x) (bit_item r.bit) = record {
        place = length l.before;
        line = lines.any (emitting (fires_of_module P) x);
        defines = record { before = l.before; after = l.after ++ inner_lines P; stands = ap (λ (z : List Line). z ++ inner_lines P) l.is ∙ append_assoc l.before (lines.any (emitting (fires_of_module P) x) ∷ l.after) (inner_lines P); place_is = refl; is = ap bit_item l.number };
        reads = r.reads;
      }
      in
      links (bit_item x) (bit_item r.bit) (bit_item y) depends (reach y (suc (process_bits P.process)) r.bit (omega (arith, between.0)) (omega (arith, between.1)) (omega (arith, between.1, inner_count)) r.holds)

  signal_chain : (x y : ℕ) → Chain (DependsDirectly P) x y → Chain (ItemDepends (equations_of P)) (bit_item x) (bit_item y)
  signal_chain x y (link _ _ d) = direct_chain x y d
  signal_chain x z (links _ y _ d c) = chain_append (ItemDepends (equations_of P)) (bit_item x) (bit_item y) (bit_item z) (direct_chain x y d) (signal_chain y z c)

  -- and back: what one step from a bit is
  data Kind (k : ℕ) (u : Item) : Type 0 where
    from_signal : (j : ℕ) → k < signal_count P → signal_count P < j → some_literal (emitting (fires_of_module P) k) j ≡ true → u ≡ bit_item j → Kind k u
    from_inner : signal_count P ≤ k → ((y j : ℕ) → u ≡ bit_item j → bit_of (values y) j ≡ true → bit_of (values y) k ≡ true) → ((w : ℕ) → u ≡ word_item w → w < register_count P.process) → Kind k u

  signal_kind : (k : ℕ) (u : Item) → k < signal_count P → line_reads (lines.any (emitting (fires_of_module P) k)) u ≡ true → Kind k u
  signal_kind k (bit_item j) below r = from_signal j below (omega (arith, (emitting_between (fires_of_module P) (suc (signal_count P)) (suc (signal_count P) + process_bits P.process) k j (process_between P.process (suc (signal_count P))) r).0)) r refl
  signal_kind k (word_item w) below r = cc

  kind : (k : ℕ) (u : Item) → ItemDepends (equations_of P) (bit_item k) u → Kind k u
  kind k u d =
      let b = defines_bit (equations_of P) d.defines.before d.line k d.defines.is in
      elim (which front (inner_lines P) d.defines.before d.line d.defines.after d.defines.stands) [
        | inl l ↦ signal_here b l
        | inr r ↦ inner_here b r
      ]
    where
      signal_here : (bits_of_line d.line ≡ 1) × ((equations_of P).inputs + bit_lines d.defines.before ≡ k) → Left front d.defines.before d.line → Kind k u
      signal_here b l =
          let r = signal_line (fires_of_module P) (input_count P) count d.defines.before d.line l.rest l.is in
          let line_is : d.line ≡ lines.any (emitting (fires_of_module P) k) = r.is ∙ ap (λ (j : ℕ). lines.any (emitting (fires_of_module P) j)) b.1 in
          signal_kind k u (omega (arith, r.inside, b.1)) (ap (λ (z : Line). line_reads z u) (sym line_is) ∙ d.reads)

      inner_here : (bits_of_line d.line ≡ 1) × ((equations_of P).inputs + bit_lines d.defines.before ≡ k) → Right front (inner_lines P) d.defines.before d.line d.defines.after → Kind k u
      inner_here b r =
          let n = signal_count P in
          let R = register_count P.process in
          let bits : bit_lines d.defines.before ≡ count + bit_lines r.more = ap bit_lines r.front ∙ bits-append front r.more ∙ omega (arith, bits-signals (fires_of_module P) (input_count P) count) in
          let place : n + bit_lines r.more ≡ k = omega (arith, bits, b.1) in
          let fine_here : IsLine n n R (omega arith) (IsInner P) k d.line = subst (λ j. IsLine n n R (omega arith) (IsInner P) j d.line) place (line_at n n R (omega arith) (IsInner P) r.more d.line d.defines.after n (subst (λ (z : List Line). AreLines n n R (omega arith) (IsInner P) n z) r.is (inner_fine P is))) in
          from_inner (omega (arith, place))
          (λ y j e t. closes (values y) d.line k j (subst (λ i. IsOr (values y) i d.line) place (or_line_at (values y) r.more d.line d.defines.after n (subst (λ (z : List Line). AreOr (values y) n z) r.is (are_or y)))) (ap (line_reads d.line) (sym e) ∙ d.reads) t b.0)
          (λ w e. line_read n n R (omega arith) (IsInner P) d.line k (word_item w) fine_here (ap (line_reads d.line) (sym e) ∙ d.reads))

  -- no line defines a register
  no_register : (w : ℕ) (z : Item) → w < register_count P.process → Chain (ItemDepends (equations_of P)) (word_item w) z → ⊥
  no_register w z below (link _ _ d) = ended P is (word_item w) d.defines.before d.line (found P is d.defines.before d.line d.defines.after d.defines.stands) d.defines.is below refl
  no_register w z below (links _ _ _ d c) = ended P is (word_item w) d.defines.before d.line (found P is d.defines.before d.line d.defines.after d.defines.stands) d.defines.is below refl

  -- a bit depends on a signal, from which it goes on to z
  record Onward (z k : ℕ) : Type 0 where
    y : ℕ
    depends : bit_of (values y) k ≡ true
    goes : (y ≡ z) ⊎ Chain (DependsDirectly P) y z

  abbrev Claim : ℕ → Item → Type 0
  Claim z (bit_item k) = (k < signal_count P → Chain (DependsDirectly P) k z) × (signal_count P ≤ k → Onward z k)
  Claim z (word_item w) = Unit {0}

  claim_link : (z k : ℕ) (u : Item) → z < signal_count P → u ≡ bit_item z → Kind k u → Claim z (bit_item k)
  claim_link z k u below e (from_signal j kb jb r f) = let same : j ≡ z = cc (sym f ∙ e) in absurd (omega (arith, same))
  claim_link z k u below e (from_inner kb closed regs) = ((λ h. absurd (omega arith)), (λ h. record { y = z; depends = closed z z e (signal_value z z below ∙ itself z); goes = inl refl }))

  claim_links : (z k : ℕ) (u : Item) (w : Item) → z < signal_count P → Kind k u → Chain (ItemDepends (equations_of P)) u w → Claim z u → Claim z (bit_item k)
  claim_links z k (bit_item i) w below (from_signal j kb jb r f) c h =
      let same : i ≡ j = cc in
      let on = h.1 (omega (arith, same)) in
      let d : DependsDirectly P k on.y = line_depends k on.y j r (ap (bit_of (values on.y)) (sym same) ∙ on.depends) in
      ((λ _. elim on.goes [ inl e ↦ link k z (subst (λ i. DependsDirectly P k i) e d) | inr more ↦ links k on.y z d more ]), (λ g. absurd (omega arith)))
  claim_links z k (word_item x) w below (from_signal j kb jb r f) c h = cc
  claim_links z k (bit_item j) w below (from_inner kb closed regs) c h = (
    (λ g. absurd (omega arith)),
    (λ g. elim (below_or_not j (signal_count P)) [
      | inl jb ↦ record { y = j; depends = closed j j refl (signal_value j j jb ∙ itself j); goes = inr (h.0 jb) }
      | inr jb ↦ let on = h.1 jb in record { y = on.y; depends = closed on.y j refl on.depends; goes = on.goes }
    ]),
  )
  claim_links z k (word_item x) w below (from_inner kb closed regs) c h = absurd (no_register x w (regs x refl) c)

  claim : (z : ℕ) (t u : Item) → z < signal_count P → Chain (ItemDepends (equations_of P)) t u → u ≡ bit_item z → Claim z t
  claim z (bit_item k) u below (link _ _ d) e = claim_link z k u below e (kind k u d)
  claim z (bit_item k) w below (links _ u _ d c) e = claim_links z k u w below (kind k u d) c (claim z u w below c e)
  claim z (word_item x) u below (link _ _ d) e = tt
  claim z (word_item x) w below (links _ u _ d c) e = tt

  -- the bit of a local depends on itself exactly where the local does
  pub cyclic_bits : (k : ℕ) → input_count P + output_count P ≤ k → k < signal_count P → (IsCyclicBit (equations_of P) k) ↔ (IsCyclic P k)
  cyclic_bits k low high = (
    (λ c. record { after_outputs = low; exists = high; chain = (claim k (bit_item k) (bit_item k) high c refl).0 high }),
    (λ c. signal_chain k k c.chain),
  )
