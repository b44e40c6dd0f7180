-- At structural memories the equations of a program have exactly its reactions.
use Rattle.std.proofs.Common.{◌≡◌, ℕ, zero, suc, ◌+◌, ◌<◌, ◌≤◌, List, [], ◌∷◌, ◌++◌, Bool, true, false, ◌&&◌, ◌||◌, not, nat_eq, IsTrue, refl, sym, ap, ◌∙◌, ◌⊎◌, inl, inr, subst, arith, length, take, drop, map, add-one, append_assoc}
use Rattle.std.specs.Prelude.{slice_index_or, flat_map}
use Rattle.std.specs.List.{list_all, list_any, range_with_len}
use Rattle.std.proofs.lemmas.List.{at_drop_more, get_or_append_left}
use Rattle.argos_base.specs.SignalSets.{SignalSet, has, lists, set_where}
use Rattle.argos_base.proofs.Bools.{true_or_false, and_both}
use Rattle.argos_base.proofs.SetLemmas.{length-set_where, has-set_where}
use Rattle.argos_core.specs.Automata.{register_count}
use Rattle.argos_core.specs.Codes.{code_of, IsStructural}
use Rattle.argos_core.specs.Configurations.{IsConfiguration, initial_configuration}
use Rattle.argos_core.specs.FirstBad.{ReactsCoded}
use Rattle.argos_core.specs.Modules.{IsModule, scope_of, locals_in}
use Rattle.argos_core.specs.Overlaps.{IsProgram}
use Rattle.argos_core.specs.Process.{Configuration, PlainModule}
use Rattle.argos_core.specs.Reactions.{input_count, output_count, signal_count, outputs_among, Reacts, valuation}
use Rattle.argos_core.proofs.CodesDiffer.{length-code_of}
use Rattle.argos_core.proofs.StepsStay.{initial_is, step_stays}
use Rattle.argos_core.proofs.StructuralFits.{Segment}
use Rattle.eqn_core.specs.Equations.{Literal, Case, Choice, code, word, next, Line, within, digit, choose, bits_of_line, words_of_line, bit_lines, word_lines, Equations, registers}
use Rattle.eqn_core.specs.Equations as lines
use Rattle.eqn_core.specs.inner.LineValues.{known}
use Rattle.eqn_core.specs.Ordered.{literal_below, choice_below, case_below, line_below}
use Rattle.eqn_core.specs.inner.OrderTest.{lines_in_order}
use Rattle.eqn_core.specs.Solutions.{Values, bit_of, word_of, is_true, defined_bits, defined_words, Completes, Solves, SystemReacts}
use Rattle.eqn_core.proofs.Evaluation.{evaluated, evaluated-completes}
use Rattle.eqn_scheme.specs.Scheme.{plus, minus, FireBit, for_signal, emitting, signal_lines, inner_lines, fires_of_module, equations_of}
use Rattle.eqn_scheme.specs.Laws.{EquationsReact, EquationsStayStructural}
use Rattle.eqn_scheme.specs.inner.Settled.{next_at}
use Rattle.eqn_scheme.specs.Settled.{among, ReactsWith}
use Rattle.eqn_scheme.specs.Wired.{Fire, fires_emit, all_fires, next_codes}
use Rattle.eqn_scheme.proofs.Fine.{AllFine, IsChoice, AreCases, IsLine, AreLines, process_fine}
use Rattle.eqn_scheme.proofs.FlatReactions.{IsEmitted, emitted_reacts, reacts_emitted, next_is}
use Rattle.eqn_scheme.proofs.Listing.{nat_lt-at, nat_le-at}
use Rattle.eqn_scheme.proofs.Meaning.{reading, words_from, process_means}
use Rattle.eqn_scheme.proofs.PresentLocals.{reacts_only, reacts_with}
use Rattle.eqn_core.proofs.LinePlaces.{AreAt, at_left, at_behind_bits, at_place, completes_at, next_bit, next_bit-is, next_word, next_word-is}
use Rattle.eqn_scheme.proofs.WiredReactions.{read_inputs}

-- what is fine is in order
module _ (n one R : ℕ) (low : n ≤ one) (Signal : ℕ → Type 0) where
  literals_below : (ls : List Literal) (b : ℕ) → AllFine n one R low Signal b ls → IsTrue (list_all (literal_below b) ls)
  literals_below [] b h = refl
  literals_below (l ∷ ls) b h = and_both _ _ (nat_lt-at l.bit b h.0.0) (literals_below ls b h.1)

  choice_in : (c : Choice) (w : ℕ) → R ≤ w → IsChoice n one R low Signal c → IsTrue (choice_below w c)
  choice_in (code k) w room h = nat_le-at k 65535 h
  choice_in (word x) w room h = nat_lt-at x w (omega arith)
  choice_in (next x) w room h = nat_lt-at x w (omega arith)

  cases_below : (cs : List Case) (b w : ℕ) → R ≤ w → AreCases n one R low Signal b cs → IsTrue (list_all (case_below b w) cs)
  cases_below [] b w room h = refl
  cases_below (c ∷ cs) b w room h = and_both _ _ (and_both _ _ (nat_lt-at c.when.bit b h.0.0) (choice_in c.choice w room h.1)) (cases_below cs b w room h.2)

  pub line_fine : (l : Line) (b w : ℕ) → R ≤ w → IsLine n one R low Signal b l → IsTrue (line_below b w l)
  line_fine (lines.all ls) b w room h = literals_below ls b h
  line_fine (lines.any ls) b w room h = literals_below ls b h
  line_fine (within x lo hi) b w room h = and_both _ _ (nat_lt-at x w (omega (arith, h.0))) (and_both _ _ (nat_le-at lo hi h.1) (nat_le-at hi 65535 h.2))
  line_fine (digit x place) b w room h = and_both _ _ (nat_lt-at x w (omega (arith, h.0))) (nat_le-at place 15 h.1)
  line_fine (choose cases other) b w room h = and_both _ _ (cases_below cases b w room h.0) (choice_in other w room h.1)

  pub in_order : (ls : List Line) (b w : ℕ) → R ≤ w → AreLines n one R low Signal b ls → IsTrue (lines_in_order b w ls)
  in_order [] b w room h = refl
  in_order (l ∷ ls) b w room h =
      and_both _ _ (line_fine l b w room h.0)
      (subst (λ k. IsTrue (lines_in_order k (w + words_of_line l) ls)) (next_bit-is b l) (subst (λ k. IsTrue (lines_in_order (next_bit b l) k ls)) (next_word-is w l) (in_order ls (next_bit b l) (next_word w l) (omega (arith, next_word-is w l)) h.1)))

-- the lines of the signals
pub bits-signals : (fires : List FireBit) (k more : ℕ) → bit_lines (signal_lines fires k more) ≡ more
bits-signals fires k zero = refl
bits-signals fires k (suc more) = omega (arith, bits-signals fires (suc k) more)

pub words-signals : (fires : List FireBit) (k more : ℕ) → word_lines (signal_lines fires k more) ≡ 0
words-signals fires k zero = refl
words-signals fires k (suc more) = omega (arith, words-signals fires (suc k) more)

for_signal-is : (s : Values) (bit : ℕ) (outs : List ℕ) (k : ℕ) → list_any (is_true s) (for_signal bit outs k) ≡ (bit_of s bit && lists outs k)
for_signal-is s bit [] k = never (bit_of s bit)
  where
    never : (b : Bool) → false ≡ (b && false)
    never true = refl
    never false = refl
for_signal-is s bit (o ∷ outs) k = elim (true_or_false (nat_eq o k)) [
  | inl y ↦ rw (y, for_signal-is s bit outs k) (absorbed (bit_of s bit) (lists outs k))
  | inr y ↦ rw y (for_signal-is s bit outs k)
]
  where
    absorbed : (a b : Bool) → (a || (a && b)) ≡ (a && true)
    absorbed true b = refl
    absorbed false b = refl

any-append : (s : Values) (xs ys : List Literal) → list_any (is_true s) (xs ++ ys) ≡ (list_any (is_true s) xs || list_any (is_true s) ys)
any-append s [] ys = refl
any-append s (x ∷ xs) ys = ap (λ b. is_true s x || b) (any-append s xs ys) ∙ joined (is_true s x) (list_any (is_true s) xs) (list_any (is_true s) ys)
  where
    joined : (a b c : Bool) → (a || (b || c)) ≡ ((a || b) || c)
    joined true b c = refl
    joined false b c = refl

pub emitting-is : (s : Values) (fires : List FireBit) (k : ℕ) → list_any (is_true s) (emitting fires k) ≡ fires_emit (reading s fires) k
emitting-is s [] k = refl
emitting-is s (f ∷ fs) k = any-append s (for_signal f.bit f.outs k) (emitting fs k) ∙ ap (λ b. b || list_any (is_true s) (emitting fs k)) (for_signal-is s f.bit f.outs k) ∙ ap (λ b. (bit_of s f.bit && lists f.outs k) || b) (emitting-is s fs k)

signals_at : (s : Values) (fires : List FireBit) (k more w j : ℕ) → AreAt s k w (signal_lines fires k more) → k ≤ j → j < k + more → bit_of s j ≡ list_any (is_true s) (emitting fires j)
signals_at s fires k zero w j a low high = absurd (omega arith)
signals_at s fires k (suc more) w j a low high = elim (here_or_later k j low) [
  | inl e ↦ subst (λ x. bit_of s x ≡ list_any (is_true s) (emitting fires x)) e a.0
  | inr later ↦ signals_at s fires (suc k) more w j a.1 later (omega arith)
]
  where
    here_or_later : (k j : ℕ) → k ≤ j → (k ≡ j) ⊎ (suc k ≤ j)
    here_or_later k j h = grind arith

drop_beyond : (v : SignalSet) (k : ℕ) → length v ≤ k → drop k v ≡ []
drop_beyond [] zero h = refl
drop_beyond [] (suc k) h = refl
drop_beyond (x ∷ v) zero h = absurd (omega arith)
drop_beyond (x ∷ v) (suc k) h = drop_beyond v k (omega arith)

-- a valuation that has the values of these lines ends with them
signals_values : (s : Values) (fires : List FireBit) (more k : ℕ) (v : SignalSet) → length v ≡ k + more → ((j : ℕ) → k ≤ j → j < k + more → has v j ≡ list_any (is_true s) (emitting fires j)) → drop k v ≡ flat_map (defined_bits s) (signal_lines fires k more)
signals_values s fires zero k v sized h = drop_beyond v k (omega arith)
signals_values s fires (suc more) k v sized h =
    at_drop_more (λ (l : List Bool). l) v k false (omega arith)
    ∙ ap (λ (x : Bool). x ∷ drop (k + 1) v) (h k (omega arith) (omega arith))
    ∙ ap (λ (l : List Bool). list_any (is_true s) (emitting fires k) ∷ l) (ap (λ (j : ℕ). drop j v) (add-one k) ∙ signals_values s fires more (suc k) v (omega arith) (λ j low high. h j (omega arith) (omega arith)))

signals_words : (s : Values) (fires : List FireBit) (more k : ℕ) → flat_map (defined_words s) (signal_lines fires k more) ≡ []
signals_words s fires zero k = refl
signals_words s fires (suc more) k = signals_words s fires more (suc k)

begins : (i v : SignalSet) → length i ≤ length v → ((k : ℕ) → k < length i → has v k ≡ has i k) → v ≡ i ++ drop (length i) v
begins [] v room h = refl
begins (x ∷ i) [] room h = absurd (omega arith)
begins (x ∷ i) (y ∷ v) room h =
    ap (λ (z : Bool). z ∷ v) (h 0 (omega arith)) ∙ ap (λ (l : List Bool). x ∷ l) (begins i v (omega arith) (λ k below. h (suc k) (omega arith)))

flat_bits : (s : Values) (xs ys : List Line) → flat_map (defined_bits s) (xs ++ ys) ≡ flat_map (defined_bits s) xs ++ flat_map (defined_bits s) ys
flat_bits s [] ys = refl
flat_bits s (x ∷ xs) ys = ap (λ (l : List Bool). defined_bits s x ++ l) (flat_bits s xs ys) ∙ sym (append_assoc (defined_bits s x) (flat_map (defined_bits s) xs) (flat_map (defined_bits s) ys))

flat_words : (s : Values) (xs ys : List Line) → flat_map (defined_words s) (xs ++ ys) ≡ flat_map (defined_words s) xs ++ flat_map (defined_words s) ys
flat_words s [] ys = refl
flat_words s (x ∷ xs) ys = ap (λ (l : List ℕ). defined_words s x ++ l) (flat_words s xs ys) ∙ sym (append_assoc (defined_words s x) (flat_map (defined_words s) xs) (flat_map (defined_words s) ys))

-- windows of values
window : (v : SignalSet) (s : Values) (a more : ℕ) → a + more ≤ length v → ((k : ℕ) → k < length v → bit_of s k ≡ has v k) → take more (drop a v) ≡ map (bit_of s) (range_with_len a more)
window v s a zero room h = refl
window v s a (suc more) room h =
    at_drop_more (λ (l : List Bool). take (suc more) l) v a false (omega arith)
    ∙ ap (λ (x : Bool). x ∷ take more (drop (a + 1) v)) (sym (h a (omega arith)))
    ∙ ap (λ (l : List Bool). bit_of s a ∷ l) (window v s (a + 1) more (omega arith) h)

words_window : (s : Values) (a more : ℕ) → map (word_of s) (range_with_len a more) ≡ words_from s a more
words_window s a zero = refl
words_window s a (suc more) = ap (λ (l : List ℕ). word_of s a ∷ l) (ap (λ (k : ℕ). map (word_of s) (range_with_len k more)) (add-one a) ∙ words_window s (suc a) more)

-- inputs and locals
abbrev pub IsInner : PlainModule → ℕ → Type 0
IsInner P k = (k < input_count P) ⊎ (input_count P + output_count P ≤ k)

module _ (P : PlainModule) (is : IsModule P) where
  -- the meaning of the lines behind those of the signals
  inner_means : (s : Values) (v : SignalSet) → ((k : ℕ) → k < signal_count P → bit_of s k ≡ has v k) → AreAt s (signal_count P) (register_count P.process) (inner_lines P)
      → (reading s (fires_of_module P) ≡ all_fires P.process 0 s.words true v) × (words_from s (register_count P.process) (register_count P.process) ≡ next_codes P.process 0 s.words true false false v)
  inner_means s v same a =
      let n = signal_count P in
      let one : bit_of s n ≡ true = a.0 in
      let none : is_true s (minus n) ≡ false = ap not one in
      let r = process_means s n n one v same P.process (scope_of P) (suc n) (register_count P.process) 0 (plus n) (minus n) (minus n) (λ k y. let below = read_inputs P k y in omega arith) (λ k l. (is.locals_alone k l).1) is.scoped is.shaped a.1 in
      (r.0 ∙ ap (λ b. all_fires P.process 0 s.words b v) one, r.1 ∙ ap (λ b. next_codes P.process 0 s.words b (is_true s (minus n)) (is_true s (minus n)) v) one ∙ ap (λ b. next_codes P.process 0 s.words true b b v) none)

  -- they are in order behind the signals and the registers
  pub inner_fine : AreLines (signal_count P) (signal_count P) (register_count P.process) (omega arith) (IsInner P) (signal_count P) (inner_lines P)
  inner_fine =
      let n = signal_count P in (
        tt,
        process_fine n n (register_count P.process) (omega arith) (IsInner P) P.process (scope_of P) (suc n) 0 (plus n) (minus n) (minus n) (omega arith) (omega arith) (omega arith, λ y. absurd (omega arith)) (omega arith, λ y. absurd (omega arith)) (omega arith, λ y. absurd (omega arith))
            (λ k y. let below = read_inputs P k y in (omega arith, inl below)) (λ k l. let range = is.locals_alone k l in (range.1, inr range.0)) is.scoped is.shaped,
      )

  pub registers-scheme : registers (equations_of P) ≡ register_count P.process
  registers-scheme = length-code_of P.process (initial_configuration P.process) (initial_is P.process is.shaped)

-- what a solution says: a reaction whose locals are those with a true bit, its outputs, and its next codes
pub record Says (P : PlainModule) (c : Configuration) (i : SignalSet) (s : Values) : Type 0 where
  pub reacts : ReactsWith P c i (among (signal_count P) (locals_in P.process) (set_where (signal_count P) (bit_of s))) (outputs_among P (set_where (signal_count P) (bit_of s))) (next_at P.process c (set_where (signal_count P) (bit_of s)))
  pub outputs : map (bit_of s) (equations_of P).outputs ≡ outputs_among P (set_where (signal_count P) (bit_of s))
  pub next : code_of P.process (next_at P.process c (set_where (signal_count P) (bit_of s))) ≡ map (word_of s) (equations_of P).next

pub solution_says : (P : PlainModule) (m : List ℕ) (i : SignalSet) (s : Values) → IsProgram P → (t : IsStructural P.process m) → Solves (equations_of P) m i s → Says P t.configuration i s
solution_says P m i s program t solves =
    let n = signal_count P in
    let c = t.configuration in
    let fires = fires_of_module P in
    let count = output_count P + length P.locals in
    let isized : length i ≡ input_count P = solves.input in
    let msized : length m ≡ register_count P.process = solves.memory ∙ registers-scheme P program.is in
    let whole : AreAt s (input_count P) (register_count P.process) (signal_lines fires (input_count P) count ++ inner_lines P) = at_place s (length i) (input_count P) (length m) (register_count P.process) _ isized msized (completes_at s (equations_of P).lines i m solves.lines.bits solves.lines.words) in
    let inner : AreAt s n (register_count P.process) (inner_lines P) = at_place s (input_count P + count) n (register_count P.process) (register_count P.process) (inner_lines P) (omega arith) refl (at_behind_bits s (input_count P) (register_count P.process) count (signal_lines fires (input_count P) count) (inner_lines P) (bits-signals fires (input_count P) count) (words-signals fires (input_count P) count) whole) in
    let v = set_where n (bit_of s) in
    let sized : length v ≡ n = length-set_where n (bit_of s) in
    let same : (k : ℕ) → k < n → bit_of s k ≡ has v k = λ k below. sym (has-set_where n (bit_of s) k below) in
    let means = inner_means P program.is s v same inner in
    let seg : Segment s.words 0 (code_of P.process c) = record { before = []; after = flat_map (defined_words s) (equations_of P).lines; is = solves.lines.words ∙ ap (λ (l : List ℕ). l ++ flat_map (defined_words s) (equations_of P).lines) (sym t.code); place = refl } in
    let emitted : IsEmitted P s.words v = λ k low high. sym (same k high) ∙ signals_at s fires (input_count P) count (register_count P.process) k (at_left s (input_count P) (register_count P.process) (signal_lines fires (input_count P) count) (inner_lines P) whole) low (omega arith) ∙ emitting-is s fires k ∙ ap (λ (l : List Fire). fires_emit l k) means.0 in
    let inputs : (k : ℕ) → k < input_count P → has v k ≡ has i k = λ k below. sym (same k (omega arith)) ∙ ap (λ (l : List Bool). slice_index_or l k false) solves.lines.bits ∙ get_or_append_left i (flat_map (defined_bits s) (equations_of P).lines) false k (omega arith) in
    record {
      reacts = emitted_reacts P program c t.is v sized s.words i seg emitted isized inputs;
      outputs = sym (window v s (input_count P) (output_count P) (omega arith) (λ k below. same k (omega arith)));
      next = sym (next_is P program c t.is v sized s.words seg) ∙ sym means.1 ∙ sym (words_window s (register_count P.process) (register_count P.process));
    }

to_reaction : (P : PlainModule) (m : List ℕ) (i o : SignalSet) (m' : List ℕ) → IsProgram P → IsStructural P.process m → SystemReacts (equations_of P) m i o m' → ReactsCoded P m i o m'
to_reaction P m i o m' program t r =
    let says = solution_says P m i r.values program t r.solves in
    let next = next_at P.process t.configuration (set_where (signal_count P) (bit_of r.values)) in
    record {
      configuration = t.configuration;
      is = t.is;
      from = t.code;
      next = next;
      reacts = subst (λ z. Reacts P t.configuration i z next) (sym (r.outputs ∙ says.outputs)) (reacts_only P t.configuration i _ _ next says.reacts);
      to = says.next ∙ sym r.next;
    }

-- a solution in which the signals have the values of a valuation that says this reaction and its locals
pub record Solution (P : PlainModule) (c : Configuration) (m : List ℕ) (i l o : SignalSet) (c' : Configuration) : Type 0 where
  pub values : Values
  pub solves : Solves (equations_of P) m i values
  pub valuation : SignalSet
  pub same : (k : ℕ) → k < signal_count P → bit_of values k ≡ has valuation k
  pub locals : l ≡ among (signal_count P) (locals_in P.process) valuation
  pub outputs : o ≡ map (bit_of values) (equations_of P).outputs
  pub next : code_of P.process c' ≡ map (word_of values) (equations_of P).next

pub reaction_solves : (P : PlainModule) (c : Configuration) (m : List ℕ) (i l o : SignalSet) (c' : Configuration) → IsProgram P → IsConfiguration P.process c → code_of P.process c ≡ m → ReactsWith P c i l o c' → Solution P c m i l o c'
reaction_solves P c m i l o c' program is from r =
    let n = signal_count P in
    let p = P.process in
    let R = register_count p in
    let fires = fires_of_module P in
    let count = output_count P + length P.locals in
    let found = reacts_emitted P c i l o c' program is r in
    let v = found.valuation in
    let isized : length i ≡ input_count P = r.input in
    let msized : length m ≡ R = ap length (sym from) ∙ length-code_of p c is in
    let order : IsTrue (lines_in_order (length v) (length m) (inner_lines P)) = subst (λ k. IsTrue (lines_in_order k (length m) (inner_lines P))) (sym found.sized) (subst (λ k. IsTrue (lines_in_order n k (inner_lines P))) (sym msized) (in_order n n R (omega arith) (IsInner P) (inner_lines P) n R (omega arith) (inner_fine P program.is))) in
    let s : Values = evaluated (inner_lines P) (known v m) in
    let done : Completes (inner_lines P) (known v m) s = evaluated-completes (inner_lines P) (known v m) order in
    let inner : AreAt s n R (inner_lines P) = at_place s (length v) n (length m) R (inner_lines P) found.sized msized (completes_at s (inner_lines P) v m done.bits done.words) in
    let same : (k : ℕ) → k < n → bit_of s k ≡ has v k = λ k below. ap (λ (l : List Bool). slice_index_or l k false) done.bits ∙ get_or_append_left v (flat_map (defined_bits s) (inner_lines P)) false k (omega (arith, found.sized)) in
    let means = inner_means P program.is s v same inner in
    let seg : Segment s.words 0 (code_of p c) = record { before = []; after = flat_map (defined_words s) (inner_lines P); is = done.words ∙ ap (λ (l : List ℕ). l ++ flat_map (defined_words s) (inner_lines P)) (sym from); place = refl } in
    let signals : drop (input_count P) v ≡ flat_map (defined_bits s) (signal_lines fires (input_count P) count) = signals_values s fires count (input_count P) v (found.sized ∙ omega arith) (λ j low high. found.emitted s.words seg j low (omega arith) ∙ ap (λ (l : List Fire). fires_emit l j) (sym means.0) ∙ sym (emitting-is s fires j)) in
    let front : v ≡ i ++ flat_map (defined_bits s) (signal_lines fires (input_count P) count) = begins i v (omega (arith, found.sized)) (λ k below. found.extends k (omega arith)) ∙ ap (λ (k : ℕ). i ++ drop k v) isized ∙ ap (λ (l : List Bool). i ++ l) signals in
    record {
      values = s;
      solves = record {
        input = isized;
        memory = msized ∙ sym (registers-scheme P program.is);
        lines = record {
          bits = done.bits ∙ ap (λ (l : List Bool). l ++ flat_map (defined_bits s) (inner_lines P)) front ∙ append_assoc i (flat_map (defined_bits s) (signal_lines fires (input_count P) count)) (flat_map (defined_bits s) (inner_lines P)) ∙ ap (λ (l : List Bool). i ++ l) (sym (flat_bits s (signal_lines fires (input_count P) count) (inner_lines P)));
          words = done.words ∙ ap (λ (l : List ℕ). m ++ (l ++ flat_map (defined_words s) (inner_lines P))) (sym (signals_words s fires count (input_count P))) ∙ ap (λ (l : List ℕ). m ++ l) (sym (flat_words s (signal_lines fires (input_count P) count) (inner_lines P)));
        };
      };
      valuation = v;
      same = same;
      locals = found.locals;
      outputs = found.outputs ∙ window v s (input_count P) (output_count P) (omega (arith, found.sized)) (λ k below. same k (omega (arith, found.sized)));
      next = sym (found.next s.words seg) ∙ sym means.1 ∙ sym (words_window s R R);
    }

to_solution : (P : PlainModule) (m : List ℕ) (i o : SignalSet) (m' : List ℕ) → IsProgram P → ReactsCoded P m i o m' → SystemReacts (equations_of P) m i o m'
to_solution P m i o m' program r =
    let with_locals = reacts_with P r.configuration i o r.next r.reacts in
    let s = reaction_solves P r.configuration m i with_locals.0 o r.next program r.is r.from with_locals.1 in
    record { values = s.values; solves = s.solves; outputs = s.outputs; next = sym r.to ∙ s.next }

pub equations_react : EquationsReact
equations_react P m i o m' program t = (to_reaction P m i o m' program t, to_solution P m i o m' program)

pub equations_stay_structural : EquationsStayStructural
equations_stay_structural P m i o m' program t r =
    let c = to_reaction P m i o m' program t r in
    record { configuration = c.next; is = step_stays P.process (signal_count P) c.configuration (valuation P i) c.reacts.emitted c.next program.is.shaped c.is c.reacts.step; code = c.to }
