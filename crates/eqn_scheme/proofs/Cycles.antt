-- Each cycle among the bits of the equations passes the bit of a local, and every number names a bit or a word that exists.
use Rattle.std.proofs.Common.{◌≡◌, ℕ, zero, suc, ◌+◌, ◌<◌, ◌≤◌, List, [], ◌∷◌, ◌++◌, Option, Some, None, Bool, true, false, ◌||◌, nat_eq, nat_lt, IsTrue, if◌then◌else◌, refl, sym, ap, ◌∙◌, ◌⊎◌, inl, inr, subst, arith, length, slice_get}
use Rattle.std.specs.List.{list_all, range_with_len}
use Rattle.std.proofs.lemmas.Bool.Decides.{nat_tests}
use Rattle.argos_base.specs.SignalSets.{lists}
use Rattle.argos_base.proofs.Bools.{true_or_false, or_cases, and_both, or_left, or_right}
use Rattle.argos_core.specs.Automata.{register_count}
use Rattle.argos_core.specs.Modules.{IsModule}
use Rattle.argos_core.specs.Process.{Transition, Timeout, Process, automaton, parallel, local, freeze, Processes, no_processes, process, States, no_states, state, Body, no_body, body, PlainModule}
use Rattle.argos_core.specs.Reactions.{input_count, output_count, signal_count}
use Rattle.argos_core.proofs.Numbers.{same_or_other}
use Rattle.eqn_core.specs.Equations.{Literal, Case, Choice, code, word, next, Line, within, digit, choose, Equations, registers, bits_of_line, words_of_line, bit_lines, word_lines, bit_count, word_count}
use Rattle.eqn_core.specs.Equations as lines
use Rattle.eqn_core.specs.Ordered.{line_below, literal_below, all_below, all_between}
use Rattle.eqn_scheme.specs.Scheme.{plus, minus, guard_bits, FireBit, transition_bits, transition_fires, timeout_bits, timeout_fires, state_bits, state_fire_bits, own_bits, own_fires, process_bits, body_bits, process_fires, parts_fires, bodies_fires, body_fires, for_signal, emitting, signal_lines, inner_lines, fires_of_module, equations_of}
use Rattle.eqn_core.specs.Chains.{Chain, link, links}
use Rattle.eqn_core.specs.Dependence.{Item, bit_item, word_item, some_literal, choice_reads, some_when, some_choice, line_reads, defined_item}
use Rattle.eqn_core.specs.Orderable.{is_local, DependsPastLocals, IsOrderable}
use Rattle.eqn_scheme.proofs.Bounds.{equations_are_small}
use Rattle.eqn_scheme.proofs.Counting.{bits-append, words-append, bits-process, words-process}
use Rattle.eqn_scheme.proofs.Fine.{AllFine, IsChoice, AreCases, IsLine, AreLines}
use Rattle.eqn_scheme.proofs.Listing.{nat_lt-at, nat_le-at}
use Rattle.eqn_core.proofs.LinePlaces.{next_bit, next_bit-is}
use Rattle.eqn_scheme.proofs.System.{IsInner, inner_fine, registers-scheme, bits-signals, words-signals, line_fine}

-- the fires' bits are between these
abbrev pub AreBetween : ℕ → ℕ → List FireBit → Type 0
AreBetween lo hi [] = Unit {0}
AreBetween lo hi (f ∷ fs) = (lo ≤ f.bit) × (f.bit < hi) × AreBetween lo hi fs

between_more : (fs : List FireBit) (a b c d : ℕ) → c ≤ a → b ≤ d → AreBetween a b fs → AreBetween c d fs
between_more [] a b c d e f h = tt
between_more (x ∷ fs) a b c d e f h = (omega (arith, h.0), omega (arith, h.1), between_more fs a b c d e f h.2)

between_append : (xs ys : List FireBit) (a b : ℕ) → AreBetween a b xs → AreBetween a b ys → AreBetween a b (xs ++ ys)
between_append [] ys a b h i = i
between_append (x ∷ xs) ys a b h i = (h.0, h.1, between_append xs ys a b h.2 i)

transitions_between : (ts : List Transition) (b : ℕ) → AreBetween b (b + transition_bits ts) (transition_fires b ts)
transitions_between [] b = tt
transitions_between (t ∷ ts) b =
    let c = suc (b + guard_bits t.guard) in
    (omega arith, omega arith, between_more (transition_fires c ts) c (c + transition_bits ts) b (b + transition_bits (t ∷ ts)) (omega arith) (omega arith) (transitions_between ts c))

timeout_between : (w : Option Timeout) (b : ℕ) → AreBetween b (b + timeout_bits w) (timeout_fires b w)
timeout_between None b = tt
timeout_between (Some w) b = (omega arith, omega arith, tt)

own_between : (ss : States) (b : ℕ) → AreBetween b (b + own_bits ss) (own_fires ss b)
own_between no_states b = tt
own_between (state s p ss) b =
    let k = suc (suc b) in
    let j = k + transition_bits s.transitions in
    let c = b + state_bits s.transitions s.timeout in
    let hi = b + own_bits (state s p ss) in
    between_append (state_fire_bits b s.transitions s.timeout) (own_fires ss c) b hi
    (between_append (transition_fires k s.transitions) (timeout_fires j s.timeout) b hi
    (between_more (transition_fires k s.transitions) k (k + transition_bits s.transitions) b hi (omega arith) (omega arith) (transitions_between s.transitions k))
    (between_more (timeout_fires j s.timeout) j (j + timeout_bits s.timeout) b hi (omega arith) (omega arith) (timeout_between s.timeout j)))
    (between_more (own_fires ss c) c (c + own_bits ss) b hi (omega arith) (omega arith) (own_between ss c))

mutual
  pub process_between : (p : Process) (b : ℕ) → AreBetween b (b + process_bits p) (process_fires p b)
  process_between (automaton ss q0) b =
      let c = suc b + own_bits ss in
      let hi = b + process_bits (automaton ss q0) in
      between_append (own_fires ss (suc b)) (bodies_fires ss c) b hi
      (between_more (own_fires ss (suc b)) (suc b) (suc b + own_bits ss) b hi (omega arith) (omega arith) (own_between ss (suc b)))
      (between_more (bodies_fires ss c) c (b + process_bits (automaton ss q0)) b hi (omega arith) (omega arith) (bodies_between ss c (b + process_bits (automaton ss q0)) (omega arith)))
  process_between (parallel ps) b = parts_between ps b
  process_between (local list p) b = process_between p b
  process_between (freeze s p) b = between_more (process_fires p (suc b)) (suc b) (suc b + process_bits p) b (b + suc (process_bits p)) (omega arith) (omega arith) (process_between p (suc b))

  parts_between : (ps : Processes) (b : ℕ) → AreBetween b (b + process_bits (parallel ps)) (parts_fires ps b)
  parts_between no_processes b = tt
  parts_between (process p ps) b =
      let c = b + process_bits p in
      let hi = b + process_bits (parallel (process p ps)) in
      between_append (process_fires p b) (parts_fires ps c) b hi (between_more (process_fires p b) b c b hi (omega arith) (omega arith) (process_between p b)) (between_more (parts_fires ps c) c (c + process_bits (parallel ps)) b hi (omega arith) (omega arith) (parts_between ps c))

  bodies_between : (ss : States) (b hi : ℕ) → b + process_bits (automaton ss 0) ≤ hi + suc (own_bits ss) → AreBetween b hi (bodies_fires ss b)
  bodies_between no_states b hi h = tt
  bodies_between (state s p ss) b hi h =
      let c = b + body_bits p in
      between_append (body_fires p b) (bodies_fires ss c) b hi (body_between p b hi (omega arith)) (between_more (bodies_fires ss c) c hi b hi (omega arith) (omega arith) (bodies_between ss c hi (omega arith)))

  body_between : (p : Body) (b hi : ℕ) → b + body_bits p ≤ hi → AreBetween b hi (body_fires p b)
  body_between no_body b hi h = tt
  body_between (body p) b hi h =
      let c = suc (suc (suc (suc b))) in
      between_more (process_fires p c) c (c + process_bits p) b hi (omega arith) (omega arith) (process_between p c)

-- what the line of a signal reads
for_signal_between : (bit : ℕ) (outs : List ℕ) (k j : ℕ) → some_literal (for_signal bit outs k) j ≡ true → j ≡ bit
for_signal_between bit [] k j h = cc
for_signal_between bit (o ∷ outs) k j h = elim (true_or_false (nat_eq o k)) [
  | inl y ↦ elim (or_cases (nat_eq bit j) (some_literal (for_signal bit outs k) j) (rw y at h)) [
    | inl e ↦ same bit j e
    | inr e ↦ for_signal_between bit outs k j e
  ]
  | inr y ↦ for_signal_between bit outs k j (rw y at h)
]
  where
    same : (a b : ℕ) → nat_eq a b ≡ true → b ≡ a
    same a b h = grind (arith, nat_tests)

some_literal-append : (xs ys : List Literal) (k : ℕ) → some_literal (xs ++ ys) k ≡ (some_literal xs k || some_literal ys k)
some_literal-append [] ys k = refl
some_literal-append (x ∷ xs) ys k = ap (λ b. nat_eq x.bit k || b) (some_literal-append xs ys k) ∙ joined (nat_eq x.bit k) (some_literal xs k) (some_literal ys k)
  where
    joined : (a b c : Bool) → (a || (b || c)) ≡ ((a || b) || c)
    joined true b c = refl
    joined false b c = refl

pub emitting_between : (fs : List FireBit) (lo hi k j : ℕ) → AreBetween lo hi fs → some_literal (emitting fs k) j ≡ true → (lo ≤ j) × (j < hi)
emitting_between [] lo hi k j h s = cc
emitting_between (f ∷ fs) lo hi k j h s = elim (or_cases (some_literal (for_signal f.bit f.outs k) j) (some_literal (emitting fs k) j) (sym (some_literal-append (for_signal f.bit f.outs k) (emitting fs k) j) ∙ s)) [
  | inl y ↦ let e = for_signal_between f.bit f.outs k j y in (omega (arith, h.0), omega (arith, h.1))
  | inr y ↦ emitting_between fs lo hi k j h.2 y
]

-- where a line stands in two lists, one behind the other
pub record Left (xs before : List Line) (line : Line) : Type 0 where
  pub rest : List Line
  pub is : xs ≡ before ++ line ∷ rest

pub record Right (xs ys before : List Line) (line : Line) (after : List Line) : Type 0 where
  pub more : List Line
  pub front : before ≡ xs ++ more
  pub is : ys ≡ more ++ line ∷ after

pub which : (xs ys before : List Line) (line : Line) (after : List Line) → xs ++ ys ≡ before ++ line ∷ after → Left xs before line ⊎ Right xs ys before line after
which [] ys before line after e = inr (record { more = before; front = refl; is = e })
which (x ∷ xs) ys [] line after e = let same : x ≡ line = cc in inl (record { rest = xs; is = ap (λ (l : Line). l ∷ xs) same })
which (x ∷ xs) ys (b ∷ before) line after e =
    let same : x ≡ b = cc in
    let tail : xs ++ ys ≡ before ++ line ∷ after = cc in
    elim (which xs ys before line after tail) [
      | inl l ↦ inl (record { rest = l.rest; is = ap (λ (z : Line). z ∷ xs) same ∙ ap (λ (z : List Line). b ∷ z) l.is })
      | inr r ↦ inr (record { more = r.more; front = ap (λ (z : List Line). b ∷ z) r.front ∙ ap (λ (z : Line). z ∷ (xs ++ r.more)) (sym same); is = r.is })
    ]

-- the lines of signals
pub record SignalLine (fires : List FireBit) (k more : ℕ) (before : List Line) (line : Line) : Type 0 where
  pub is : line ≡ lines.any (emitting fires (k + bit_lines before))
  pub inside : bit_lines before < more
  pub no_words : word_lines before ≡ 0

pub signal_line : (fires : List FireBit) (k more : ℕ) (before : List Line) (line : Line) (rest : List Line) → signal_lines fires k more ≡ before ++ line ∷ rest → SignalLine fires k more before line
signal_line fires k zero [] line rest e = cc
signal_line fires k zero (b ∷ before) line rest e = cc
signal_line fires k (suc more) [] line rest e =
    let same : lines.any (emitting fires k) ≡ line = cc in
    let here : k ≡ k + 0 = omega arith in
    record { is = sym same ∙ ap (λ (j : ℕ). lines.any (emitting fires j)) here; inside = omega arith; no_words = refl }
signal_line fires k (suc more) (b ∷ before) line rest e =
    let same : lines.any (emitting fires k) ≡ b = cc in
    let tail : signal_lines fires (suc k) more ≡ before ++ line ∷ rest = cc in
    let r = signal_line fires (suc k) more before line rest tail in
    let one : bits_of_line b ≡ 1 = ap bits_of_line (sym same) in
    let none : words_of_line b ≡ 0 = ap words_of_line (sym same) in
    let there : suc k + bit_lines before ≡ k + (bits_of_line b + bit_lines before) = omega arith in
    record { is = r.is ∙ ap (λ (j : ℕ). lines.any (emitting fires j)) there; inside = omega (arith, r.inside); no_words = omega (arith, r.no_words) }

module _ (n one R : ℕ) (low : n ≤ one) (Signal : ℕ → Type 0) where
  pub line_at : (more : List Line) (line : Line) (after : List Line) (b : ℕ) → AreLines n one R low Signal b (more ++ line ∷ after) → IsLine n one R low Signal (b + bit_lines more) line
  line_at [] line after b h = let e : b ≡ b + 0 = omega arith in subst (λ k. IsLine n one R low Signal k line) e h.0
  line_at (x ∷ more) line after b h = let e : next_bit b x + bit_lines more ≡ b + bit_lines (x ∷ more) = omega (arith, next_bit-is b x) in subst (λ k. IsLine n one R low Signal k line) e (line_at more line after (next_bit b x) h.1)

  all_wider : (ls : List Literal) (b c : ℕ) → b ≤ c → AllFine n one R low Signal b ls → AllFine n one R low Signal c ls
  all_wider [] b c le h = tt
  all_wider (l ∷ ls) b c le h = ((omega (arith, h.0.0), h.0.1), all_wider ls b c le h.1)

  cases_wider : (cs : List Case) (b c : ℕ) → b ≤ c → AreCases n one R low Signal b cs → AreCases n one R low Signal c cs
  cases_wider [] b c le h = tt
  cases_wider (x ∷ cs) b c le h = ((omega (arith, h.0.0), h.0.1), h.1, cases_wider cs b c le h.2)

  line_wider : (l : Line) (b c : ℕ) → b ≤ c → IsLine n one R low Signal b l → IsLine n one R low Signal c l
  line_wider (lines.all ls) b c le h = all_wider ls b c le h
  line_wider (lines.any ls) b c le h = all_wider ls b c le h
  line_wider (within x lo hi) b c le h = h
  line_wider (digit x place) b c le h = h
  line_wider (choose cases other) b c le h = (cases_wider cases b c le h.0, h.1)

  equal : (a b : ℕ) → nat_eq a b ≡ true → a ≡ b
  equal a b h = grind (arith, nat_tests)

  literal_read : (ls : List Literal) (b k : ℕ) → AllFine n one R low Signal b ls → some_literal ls k ≡ true → (k < b) × (k < n → Signal k)
  literal_read [] b k h s = cc
  literal_read (l ∷ ls) b k h s = elim (or_cases (nat_eq l.bit k) (some_literal ls k) s) [
    | inl e ↦ subst (λ j. (j < b) × (j < n → Signal j)) (equal l.bit k e) h.0
    | inr e ↦ literal_read ls b k h.1 e
  ]

  when_read : (cs : List Case) (b k : ℕ) → AreCases n one R low Signal b cs → some_when cs k ≡ true → (k < b) × (k < n → Signal k)
  when_read [] b k h s = cc
  when_read (c ∷ cs) b k h s = elim (or_cases (nat_eq c.when.bit k) (some_when cs k) s) [
    | inl e ↦ subst (λ j. (j < b) × (j < n → Signal j)) (equal c.when.bit k e) h.0
    | inr e ↦ when_read cs b k h.2 e
  ]

  choice_read : (c : Choice) (k : ℕ) → IsChoice n one R low Signal c → choice_reads c k ≡ true → k < R
  choice_read (code x) k h s = cc
  choice_read (word x) k h s = let e = equal x k s in omega (arith, h)
  choice_read (next x) k h s = let e = equal x k s in omega (arith, h)

  choices_read : (cs : List Case) (b k : ℕ) → AreCases n one R low Signal b cs → some_choice cs k ≡ true → k < R
  choices_read [] b k h s = cc
  choices_read (c ∷ cs) b k h s = elim (or_cases (choice_reads c.choice k) (some_choice cs k) s) [
    | inl e ↦ choice_read c.choice k h.1 e
    | inr e ↦ choices_read cs b k h.2 e
  ]

  -- a line reads earlier bits, of signals these alone, and registers
  abbrev pub Allowed : ℕ → Item → Type 0
  Allowed b (bit_item k) = (k < b) × (k < n → Signal k)
  Allowed b (word_item k) = k < R

  pub line_read : (l : Line) (b : ℕ) (y : Item) → IsLine n one R low Signal b l → line_reads l y ≡ true → Allowed b y
  line_read (lines.all ls) b (bit_item k) h s = literal_read ls b k h s
  line_read (lines.all ls) b (word_item k) h s = cc
  line_read (lines.any ls) b (bit_item k) h s = literal_read ls b k h s
  line_read (lines.any ls) b (word_item k) h s = cc
  line_read (within x lo hi) b (bit_item k) h s = cc
  line_read (within x lo hi) b (word_item k) h s = let e = equal x k s in omega (arith, h.0)
  line_read (digit x place) b (bit_item k) h s = cc
  line_read (digit x place) b (word_item k) h s = let e = equal x k s in omega (arith, h.0)
  line_read (choose cases other) b (bit_item k) h s = when_read cases b k h.0 s
  line_read (choose cases other) b (word_item k) h s = elim (or_cases (some_choice cases k) (choice_reads other k) s) [ inl e ↦ choices_read cases b k h.0 e | inr e ↦ choice_read other k h.1 e ]

lists-range : (a count k : ℕ) → a ≤ k → k < a + count → lists (range_with_len a count) k ≡ true
lists-range a zero k low high = absurd (omega arith)
lists-range a (suc count) k low high = elim (same_or_other a k) [
  | inl e ↦ or_left (nat_eq a k) (lists (range_with_len (a + 1) count) k) (at_same a k e)
  | inr o ↦ or_right (nat_eq a k) (lists (range_with_len (a + 1) count) k) (lists-range (a + 1) count k (omega arith) (omega arith))
]
  where
    at_same : (a k : ℕ) → a ≡ k → nat_eq a k ≡ true
    at_same a k e = grind (arith, nat_tests)

module _ (P : PlainModule) (is : IsModule P) where
  abbrev top : ℕ
  top = signal_count P + suc (process_bits P.process)

  -- what stands where: a signal's line, or a line behind them
  pub data Found (before : List Line) (line : Line) : Type 0 where
    of_signal : (k : ℕ) → input_count P ≤ k → k < signal_count P → line ≡ lines.any (emitting (fires_of_module P) k) → defined_item (equations_of P) before line ≡ bit_item k → Found before line
    of_inner : (b w : ℕ) → signal_count P ≤ b → b + bits_of_line line ≤ top → register_count P.process ≤ w → IsLine (signal_count P) (signal_count P) (register_count P.process) (omega arith) (IsInner P) b line → input_count P + bit_lines before ≡ b → registers (equations_of P) + word_lines before ≡ w → Found before line

  pub found : (before : List Line) (line : Line) (after : List Line) → (equations_of P).lines ≡ before ++ line ∷ after → Found before line
  found before line after e =
      let fires = fires_of_module P in
      let count = output_count P + length P.locals in
      elim (which (signal_lines fires (input_count P) count) (inner_lines P) before line after e) [
        | inl l ↦ signal_found l
        | inr r ↦ inner_found r
      ]
    where
      signal_found : Left (signal_lines (fires_of_module P) (input_count P) (output_count P + length P.locals)) before line → Found before line
      signal_found l =
          let r = signal_line (fires_of_module P) (input_count P) (output_count P + length P.locals) before line l.rest l.is in
          of_signal (input_count P + bit_lines before) (omega arith) (omega (arith, r.inside)) r.is (ap (defined_item (equations_of P) before) r.is)

      inner_found : Right (signal_lines (fires_of_module P) (input_count P) (output_count P + length P.locals)) (inner_lines P) before line after → Found before line
      inner_found r =
          let n = signal_count P in
          let fires = fires_of_module P in
          let count = output_count P + length P.locals in
          let fine = line_at n n (register_count P.process) (omega arith) (IsInner P) r.more line after n (subst (λ (l : List Line). AreLines n n (register_count P.process) (omega arith) (IsInner P) n l) r.is (inner_fine P is)) in
          let bits : bit_lines before ≡ count + bit_lines r.more = ap bit_lines r.front ∙ bits-append (signal_lines fires (input_count P) count) r.more ∙ omega (arith, bits-signals fires (input_count P) count) in
          let whole : suc (process_bits P.process) ≡ bit_lines r.more + (bits_of_line line + bit_lines after) = sym (omega (arith, bits-process P.process n (suc n) 0 (plus n) (minus n) (minus n))) ∙ ap bit_lines r.is ∙ bits-append r.more (line ∷ after) in
          of_inner (n + bit_lines r.more) (registers (equations_of P) + word_lines before) (omega arith) (omega arith) (omega (arith, registers-scheme P is)) fine (omega arith) refl

  -- how high an item stands: the bits of signals above all lines, words above these
  abbrev rank : Item → ℕ
  rank (bit_item k) = if nat_lt k (signal_count P) then top else k
  rank (word_item w) = suc top

  -- inputs, locals and registers
  abbrev pub IsEnd : Item → Type 0
  IsEnd (bit_item k) = (k < signal_count P) × IsInner P k
  IsEnd (word_item w) = w < register_count P.process

  rank_signal : (k : ℕ) → k < signal_count P → rank (bit_item k) ≡ top
  rank_signal k h = rw (nat_lt-at k (signal_count P) h) refl

  rank_inner : (k : ℕ) → signal_count P ≤ k → rank (bit_item k) ≡ k
  rank_inner k h = rw (not_below k (signal_count P) h) refl
    where
      not_below : (k n : ℕ) → n ≤ k → nat_lt k n ≡ false
      not_below k n h = grind (arith, nat_tests)

  rank_defined : (before : List Line) (line : Line) (b : ℕ) → signal_count P ≤ b → b + bits_of_line line ≤ top → input_count P + bit_lines before ≡ b → b ≤ rank (defined_item (equations_of P) before line)
  rank_defined before (lines.all ls) b low high e = omega (arith, rank_inner (input_count P + bit_lines before) (omega arith))
  rank_defined before (lines.any ls) b low high e = omega (arith, rank_inner (input_count P + bit_lines before) (omega arith))
  rank_defined before (within x lo hi) b low high e = omega (arith, rank_inner (input_count P + bit_lines before) (omega arith))
  rank_defined before (digit x place) b low high e = omega (arith, rank_inner (input_count P + bit_lines before) (omega arith))
  rank_defined before (choose cases other) b low high e = omega arith

  down : (x y : Item) (before : List Line) (line : Line) → Found before line → defined_item (equations_of P) before line ≡ x → line_reads line y ≡ true → IsEnd y ⊎ (rank y < rank x)
  down x (bit_item j) before line (of_signal k low high e d) is_x reads =
      let some : some_literal (emitting (fires_of_module P) k) j ≡ true = ap (λ l. line_reads l (bit_item j)) (sym e) ∙ reads in
      let range = emitting_between (fires_of_module P) (suc (signal_count P)) (suc (signal_count P) + process_bits P.process) k j (process_between P.process (suc (signal_count P))) some in
      inr (omega (arith, range.0, range.1, rank_inner j (omega (arith, range.0)), rank_signal k high, ap rank (sym d ∙ is_x)))
  down x (word_item j) before line (of_signal k low high e d) is_x reads = let some : false ≡ true = ap (λ l. line_reads l (word_item j)) (sym e) ∙ reads in cc
  down x (bit_item j) before line (of_inner b w low high wlow fine at w_at) is_x reads =
      let a = line_read (signal_count P) (signal_count P) (register_count P.process) (omega arith) (IsInner P) line b (bit_item j) fine reads in
      elim (below_or_not j (signal_count P)) [
        | inl y ↦ inl (y, a.1 y)
        | inr y ↦ inr (omega (arith, a.0, rank_inner j y, rank_defined before line b low high at, ap rank is_x))
      ]
    where
      below_or_not : (k n : ℕ) → (k < n) ⊎ (n ≤ k)
      below_or_not k n = grind arith
  down x (word_item j) before line (of_inner b w low high wlow fine at w_at) is_x reads = inl (line_read (signal_count P) (signal_count P) (register_count P.process) (omega arith) (IsInner P) line b (word_item j) fine reads)

  step_down : (x y : Item) → DependsPastLocals (equations_of P) x y → IsEnd y ⊎ (rank y < rank x)
  step_down x y d = down x y d.depends.defines.before d.depends.line (found d.depends.defines.before d.depends.line d.depends.defines.after d.depends.defines.stands) d.depends.defines.is d.depends.reads

  -- where nothing but a word is defined, and so on
  no_bit : (before : List Line) (line : Line) (b k : ℕ) → input_count P + bit_lines before ≡ b → defined_item (equations_of P) before line ≡ bit_item k → k ≡ b
  no_bit before (lines.all ls) b k e d = let f : input_count P + bit_lines before ≡ k = cc in omega arith
  no_bit before (lines.any ls) b k e d = let f : input_count P + bit_lines before ≡ k = cc in omega arith
  no_bit before (within x lo hi) b k e d = let f : input_count P + bit_lines before ≡ k = cc in omega arith
  no_bit before (digit x place) b k e d = let f : input_count P + bit_lines before ≡ k = cc in omega arith
  no_bit before (choose cases other) b k e d = cc

  no_word : (before : List Line) (line : Line) (w k : ℕ) → registers (equations_of P) + word_lines before ≡ w → defined_item (equations_of P) before line ≡ word_item k → k ≡ w
  no_word before (lines.all ls) w k e d = cc
  no_word before (lines.any ls) w k e d = cc
  no_word before (within x lo hi) w k e d = cc
  no_word before (digit x place) w k e d = cc
  no_word before (choose cases other) w k e d = let f : registers (equations_of P) + word_lines before ≡ k = cc in omega arith

  -- from inputs, locals and registers no step goes on
  pub ended : (x : Item) (before : List Line) (line : Line) → Found before line → defined_item (equations_of P) before line ≡ x → IsEnd x → is_local (equations_of P) x ≡ false → ⊥
  ended (bit_item j) before line (of_signal k low high e d) is_x end past =
      let same : k ≡ j = cc (sym d ∙ is_x) in
      elim end.1 [
        | inl y ↦ absurd (omega (arith, same, y))
        | inr y ↦ let yes : lists (range_with_len (input_count P + output_count P) (length P.locals)) j ≡ true = lists-range (input_count P + output_count P) (length P.locals) j y (omega (arith, end.0)) in cc
      ]
  ended (word_item j) before line (of_signal k low high e d) is_x end past = cc (sym d ∙ is_x)
  ended (bit_item j) before line (of_inner b w low high wlow fine at w_at) is_x end past = absurd (omega (arith, end.0, no_bit before line b j at is_x))
  ended (word_item j) before line (of_inner b w low high wlow fine at w_at) is_x end past = absurd (omega (arith, end, no_word before line w j w_at is_x))

  no_step : (x y : Item) → IsEnd x → DependsPastLocals (equations_of P) x y → ⊥
  no_step x y end d = ended x d.depends.defines.before d.depends.line (found d.depends.defines.before d.depends.line d.depends.defines.after d.depends.defines.stands) d.depends.defines.is end d.past

  no_chain : (x y : Item) → IsEnd x → Chain (DependsPastLocals (equations_of P)) x y → ⊥
  no_chain x y end (link _ _ d) = no_step x y end d
  no_chain x z end (links _ y _ d c) = no_step x y end d

  chain_down : (x y : Item) → Chain (DependsPastLocals (equations_of P)) x y → IsEnd y ⊎ (rank y < rank x)
  chain_down x y (link _ _ d) = step_down x y d
  chain_down x z (links _ y _ d c) = elim (step_down x y d) [
    | inl end ↦ absurd (no_chain y z end c)
    | inr lower ↦ elim (chain_down y z c) [ inl end ↦ inl end | inr more ↦ inr (omega (arith, lower, more)) ]
  ]

  pub no_cycle : (k : ℕ) → ¬ (Chain (DependsPastLocals (equations_of P)) (bit_item k) (bit_item k))
  no_cycle k c = elim (chain_down (bit_item k) (bit_item k) c) [
    | inl end ↦ no_chain (bit_item k) (bit_item k) end c
    | inr lower ↦ absurd (omega (arith, lower))
  ]

  bit_count-scheme : bit_count (equations_of P) ≡ top
  bit_count-scheme =
      let n = signal_count P in
      let count = output_count P + length P.locals in
      omega (arith, bits-append (signal_lines (fires_of_module P) (input_count P) count) (inner_lines P), bits-signals (fires_of_module P) (input_count P) count, bits-process P.process n (suc n) 0 (plus n) (minus n) (minus n))

  word_count-scheme : word_count (equations_of P) ≡ register_count P.process + register_count P.process
  word_count-scheme =
      let n = signal_count P in
      let count = output_count P + length P.locals in
      omega (arith, registers-scheme P is, words-append (signal_lines (fires_of_module P) (input_count P) count) (inner_lines P), words-signals (fires_of_module P) (input_count P) count, words-process P.process n (suc n) 0 (plus n) (minus n) (minus n))

  signal_below : (ls : List Literal) (hi : ℕ) → ((j : ℕ) → some_literal ls j ≡ true → j < hi) → IsTrue (list_all (literal_below hi) ls)
  signal_below [] hi h = refl
  signal_below (l ∷ ls) hi h = and_both _ _ (nat_lt-at l.bit hi (h l.bit (or_left (nat_eq l.bit l.bit) (some_literal ls l.bit) (itself l.bit)))) (signal_below ls hi (λ j s. h j (or_right (nat_eq l.bit j) (some_literal ls j) s)))
    where
      itself : (k : ℕ) → nat_eq k k ≡ true
      itself k = grind (arith, nat_tests)

  line_exists : (before : List Line) (line : Line) → Found before line → IsTrue (line_below (bit_count (equations_of P)) (word_count (equations_of P)) line)
  line_exists before line (of_signal k low high e d) =
      subst (λ l. IsTrue (line_below (bit_count (equations_of P)) (word_count (equations_of P)) l)) (sym e)
      (signal_below (emitting (fires_of_module P) k) (bit_count (equations_of P)) (λ j s. omega (arith, bit_count-scheme, (emitting_between (fires_of_module P) (suc (signal_count P)) (suc (signal_count P) + process_bits P.process) k j (process_between P.process (suc (signal_count P))) s).1)))
  line_exists before line (of_inner b w low high wlow fine at w_at) =
      line_fine (signal_count P) (signal_count P) (register_count P.process) (omega arith) (IsInner P) line (bit_count (equations_of P)) (word_count (equations_of P)) (omega (arith, word_count-scheme))
      (line_wider (signal_count P) (signal_count P) (register_count P.process) (omega arith) (IsInner P) line b (bit_count (equations_of P)) (omega (arith, bit_count-scheme)) fine)

  chooses_registers : (before : List Line) (cases : List Case) (other : Choice) (after : List Line) (w : ℕ) → (equations_of P).lines ≡ before ++ choose cases other ∷ after → line_reads (choose cases other) (word_item w) ≡ true → w < registers (equations_of P)
  chooses_registers before cases other after w e reads = reading (found before (choose cases other) after e)
    where
      reading : Found before (choose cases other) → w < registers (equations_of P)
      reading (of_signal k low high f d) = cc
      reading (of_inner b x low high wlow fine at w_at) = omega (arith, registers-scheme P is, line_read (signal_count P) (signal_count P) (register_count P.process) (omega arith) (IsInner P) (choose cases other) b (word_item w) fine reads)

  range_below : (a count n : ℕ) → a + count ≤ n → all_below n (range_with_len a count) ≡ true
  range_below a zero n h = refl
  range_below a (suc count) n h = and_both _ _ (nat_lt-at a n (omega arith)) (range_below (a + 1) count n (omega arith))

  range_between : (a count lo n : ℕ) → lo ≤ a → a + count ≤ n → all_between lo n (range_with_len a count) ≡ true
  range_between a zero lo n g h = refl
  range_between a (suc count) lo n g h = and_both _ _ (and_both _ _ (nat_le-at lo a g) (nat_lt-at a n (omega arith))) (range_between (a + 1) count lo n (omega arith) (omega arith))

  length-range : (a count : ℕ) → length (range_with_len a count) ≡ count
  length-range a zero = refl
  length-range a (suc count) = ap suc (length-range (a + 1) count)

  range_at : (a count j x : ℕ) → slice_get (range_with_len a count) j ≡ Some x → x ≡ a + j
  range_at a zero j x h = cc
  range_at a (suc count) zero x h = let e : a ≡ x = cc in omega arith
  range_at a (suc count) (suc j) x h = omega (arith, range_at (a + 1) count j x h)

  pub equations_are_orderable_of : IsOrderable (equations_of P)
  equations_are_orderable_of = record {
    cycles = no_cycle;
    chooses = chooses_registers;
    each = λ before line after e. line_exists before line (found before line after e);
    next_sized = length-range (register_count P.process) (register_count P.process) ∙ sym (registers-scheme P is);
    next_exist = range_between (register_count P.process) (register_count P.process) (registers (equations_of P)) (word_count (equations_of P)) (omega (arith, registers-scheme P is)) (omega (arith, word_count-scheme));
    outputs_exist = range_below (input_count P) (output_count P) (bit_count (equations_of P)) (omega (arith, bit_count-scheme));
    locals_exist = range_below (input_count P + output_count P) (length P.locals) (bit_count (equations_of P)) (omega (arith, bit_count-scheme));
    locals_once = λ j k x e f. omega (arith, range_at (input_count P + output_count P) (length P.locals) j x e, range_at (input_count P + output_count P) (length P.locals) k x f);
    register_limit = omega (arith, registers-scheme P is, is.automata);
    input_limit = omega (arith, is.signals);
    output_limit = omega (arith, length-range (input_count P) (output_count P), is.signals);
    line_limit = omega (arith, (equations_are_small P).0, is.size);
  }
