-- What the step of an ordered system leaves in the arrays.
use Rattle.std.proofs.Common.{◌≡◌, ℕ, zero, suc, ◌+◌, ◌-◌, ◌<◌, ◌≤◌, List, [], ◌∷◌, ◌++◌, Bool, false, ◌&&◌, IsTrue, length, take, drop, get_or, set, map, refl, sym, ap, ◌∙◌, subst, append_assoc, length-append, arith}
use Rattle.std.specs.Prelude.{nat_lt, nat_le, flat_map}
use Rattle.std.proofs.Math.Seq.{get_or-append_seam, take-append_seam}
use Rattle.std.proofs.lemmas.Bool.Decides.{nat_tests}
use Rattle.std.proofs.lemmas.List.{append-nil, take-append-drop, get_or_append_left, get_or-append_right, length-map, drop_all, length-drop}
use Rattle.argos_base.specs.SignalSets.{SignalSet, has}
use Rattle.argos_base.proofs.Bools.{and_first, and_second}
use Rattle.eqn_core.specs.Equations.{Equations, registers, bit_lines, word_lines, bit_count, word_count}
use Rattle.eqn_core.specs.inner.LineValues.{known}
use Rattle.eqn_core.specs.Ordered.{all_below, all_between, IsOrdered}
use Rattle.eqn_core.specs.inner.OrderTest.{lines_in_order}
use Rattle.eqn_core.specs.Solutions.{Values, bit_of, word_of, defined_words}
use Rattle.eqn_core.proofs.InOrder.{IsOrdered-walk}
use Rattle.eqn_core.proofs.Evaluation.{evaluated, evaluated-completes}
use Rattle.c_step.specs.CStep.{CStat}
use Rattle.c_step.specs.CRuns.{Arrays, done, all_done}
use Rattle.c_emit.specs.COf.{input_statements, line_statements, out_statements, register_statements, statements_of}
use Rattle.c_emit.proofs.LineSteps.{arrays, filled, Small, below, set_here, lines_done, bits-evaluated}

pub all_done-append : (i : SignalSet) (xs ys : List CStat) (a : Arrays) → all_done i (xs ++ ys) a ≡ all_done i ys (all_done i xs a)
all_done-append i [] ys a = refl
all_done-append i (x ∷ xs) ys a = all_done-append i xs ys (done i x a)

length-more : {A : Type 0} (front : List A) (u : A) → length front + 1 ≡ length (front ++ u ∷ [])
length-more front u = sym (length-append front (u ∷ []))

drop-one : {A : Type 0} (n : ℕ) (x : List A) → drop n (drop 1 x) ≡ drop (suc n) x
drop-one n [] = nothing n
  where
    nothing : {A : Type 0} (n : ℕ) → ◌≡◌ {A = List A} (drop n []) []
    nothing zero = refl
    nothing (suc n) = refl
drop-one n (v ∷ x) = refl

-- the inputs behind those that were read
inputs_done : (i : SignalSet) (front back : List Bool) (w : List ℕ) (x o : List Bool) → i ≡ front ++ back → length back ≤ length x
    → all_done i (input_statements (length front) (length back)) (arrays w (front ++ x) o) ≡ arrays w (i ++ drop (length back) x) o
inputs_done i front [] w x o e room = ap (λ (z : List Bool). arrays w (z ++ x) o) (sym (e ∙ append-nil front))
inputs_done i front (b ∷ back) w x o e room =
    let value : has i (length front) ≡ b = ap (λ (z : List Bool). get_or z (length front) false) e ∙ get_or-append_seam front b back false in
    let shift : i ≡ (front ++ b ∷ []) ++ back = e ∙ sym (append_assoc front (b ∷ []) back) in
    let fits : length back ≤ length (drop 1 x) = omega (arith, length-drop 1 x) in
    ap (λ (v : Bool). all_done i (input_statements (length front + 1) (length back)) (arrays w (set (front ++ x) (length front) v) o)) value
    ∙ ap (λ (z : List Bool). all_done i (input_statements (length front + 1) (length back)) (arrays w z o)) (set_here front x b (omega arith))
    ∙ ap (λ (k : ℕ). all_done i (input_statements k (length back)) (arrays w ((front ++ b ∷ []) ++ drop 1 x) o)) (length-more front b)
    ∙ inputs_done i (front ++ b ∷ []) back w (drop 1 x) o shift fits
    ∙ ap (λ (z : List Bool). arrays w (i ++ z) o) (drop-one (length back) x)

outs_done : (i : SignalSet) (ks : List ℕ) (w : List ℕ) (b front x : List Bool) → length ks ≤ length x
    → all_done i (out_statements (length front) ks) (arrays w b (front ++ x)) ≡ arrays w b (front ++ (map (has b) ks ++ drop (length ks) x))
outs_done i [] w b front x room = refl
outs_done i (k ∷ ks) w b front x room =
    let fits : length ks ≤ length (drop 1 x) = omega (arith, length-drop 1 x) in
    ap (λ (z : List Bool). all_done i (out_statements (length front + 1) ks) (arrays w b z)) (set_here front x (has b k) (omega arith))
    ∙ ap (λ (n : ℕ). all_done i (out_statements n ks) (arrays w b ((front ++ has b k ∷ []) ++ drop 1 x))) (length-more front (has b k))
    ∙ outs_done i ks w b (front ++ has b k ∷ []) (drop 1 x) fits
    ∙ ap (λ (z : List Bool). arrays w b z) (append_assoc front (has b k ∷ []) (map (has b) ks ++ drop (length ks) (drop 1 x)))
    ∙ ap (λ (z : List Bool). arrays w b (front ++ (has b k ∷ (map (has b) ks ++ z)))) (drop-one (length ks) x)

-- each of the words stands behind the registers
abbrev Behind : ℕ → ℕ → List ℕ → Type 0
Behind lo n ks = IsTrue (all_between lo n ks)

behind_lo : (lo n k : ℕ) (ks : List ℕ) → Behind lo n (k ∷ ks) → lo ≤ k
behind_lo lo n k ks h = within lo k (and_first (nat_le lo k) _ (and_first (nat_le lo k && nat_lt k n) _ h))
  where
    within : (a b : ℕ) → IsTrue (nat_le a b) → a ≤ b
    within a b h = grind (arith, nat_tests)

behind_hi : (lo n k : ℕ) (ks : List ℕ) → Behind lo n (k ∷ ks) → k < n
behind_hi lo n k ks h = below k n (and_second (nat_le lo k) _ (and_first (nat_le lo k && nat_lt k n) _ h))

behind_rest : (lo n k : ℕ) (ks : List ℕ) → Behind lo n (k ∷ ks) → Behind lo n ks
behind_rest lo n k ks h = and_second (nat_le lo k && nat_lt k n) _ h

registers_done : (i : SignalSet) (n : ℕ) (ks front mid back : List ℕ) (b o : List Bool) → length mid ≡ length ks → Behind (length front + length mid) n ks
    → all_done i (register_statements (length front) ks) (arrays (front ++ (mid ++ back)) b o) ≡ arrays (front ++ (map (λ k. get_or back (k - (length front + length mid)) 0) ks ++ back)) b o
registers_done i n [] front [] back b o e h = refl
registers_done i n [] front (v ∷ mid) back b o e h = absurd (omega arith)
registers_done i n (k ∷ ks) front [] back b o e h = absurd (omega arith)
registers_done i n (k ∷ ks) front (v ∷ mid) back b o e h =
    let all : ℕ = length front + length (v ∷ mid) in
    let u : ℕ = get_or back (k - all) 0 in
    let far : all ≤ k = behind_lo all n k ks h in
    let joined : length (front ++ (v ∷ mid)) ≡ all = length-append front (v ∷ mid) in
    let value : get_or (front ++ ((v ∷ mid) ++ back)) k 0 ≡ u = ap (λ (z : List ℕ). get_or z k 0) (sym (append_assoc front (v ∷ mid) back)) ∙ get_or-append_right (front ++ (v ∷ mid)) back all k 0 joined far in
    let moved : length (front ++ u ∷ []) + length mid ≡ all = omega (arith, length-more front u) in
    let rest = registers_done i n ks (front ++ u ∷ []) mid back b o (omega arith) (subst (λ (m : ℕ). Behind m n ks) (sym moved) (behind_rest all n k ks h)) in
    ap (λ (z : ℕ). all_done i (register_statements (length front + 1) ks) (arrays (set (front ++ (v ∷ (mid ++ back))) (length front) z) b o)) value
    ∙ ap (λ (z : List ℕ). all_done i (register_statements (length front + 1) ks) (arrays z b o)) (set_here front (v ∷ (mid ++ back)) u (omega arith))
    ∙ ap (λ (m : ℕ). all_done i (register_statements m ks) (arrays ((front ++ u ∷ []) ++ (mid ++ back)) b o)) (length-more front u)
    ∙ rest
    ∙ ap (λ (m : ℕ). arrays ((front ++ u ∷ []) ++ (map (λ k. get_or back (k - m) 0) ks ++ back)) b o) moved
    ∙ ap (λ (z : List ℕ). arrays z b o) (append_assoc front (u ∷ []) (map (λ k. get_or back (k - all) 0) ks ++ back))

-- arrays with room for the system, whose registers hold m
pub record Fits (E : Equations) (m : List ℕ) (a : Arrays) : Type 0 where
  pub words : length a.words ≡ word_count E
  pub bits : bit_count E ≤ length a.bits
  pub outs : length a.outs ≡ length E.outputs
  pub registers : take (registers E) a.words ≡ m

bits_read : (t : Values) (x : List Bool) (ks : List ℕ) → IsTrue (all_below (length t.bits) ks) → map (has (t.bits ++ x)) ks ≡ map (bit_of t) ks
bits_read t x [] h = refl
bits_read t x (k ∷ ks) h =
    let here : has (t.bits ++ x) k ≡ bit_of t k = get_or_append_left t.bits x false k (below _ _ (and_first _ _ h)) in
    ap (λ (b : Bool). b ∷ map (has (t.bits ++ x)) ks) here ∙ ap (λ (z : List Bool). bit_of t k ∷ z) (bits_read t x ks (and_second (nat_lt k (length t.bits)) _ h))

words_read : (t : Values) (m back : List ℕ) (n : ℕ) (ks : List ℕ) → t.words ≡ m ++ back → Behind (length m) n ks → map (λ k. get_or back (k - (0 + length m)) 0) ks ≡ map (word_of t) ks
words_read t m back n [] e h = refl
words_read t m back n (k ∷ ks) e h =
    let here : word_of t k ≡ get_or back (k - (0 + length m)) 0 = ap (λ (z : List ℕ). get_or z k 0) e ∙ get_or-append_right m back (0 + length m) k 0 (omega arith) (omega (arith, behind_lo (length m) n k ks h)) in
    ap (λ (z : ℕ). z ∷ map (λ k. get_or back (k - (0 + length m)) 0) ks) (sym here) ∙ ap (λ (z : List ℕ). word_of t k ∷ z) (words_read t m back n ks e (behind_rest (length m) n k ks h))

-- the solution from memory m on input i
abbrev pub solution : Equations → List ℕ → SignalSet → Values
solution E m i = evaluated E.lines (known i m)

-- what stands in the arrays at the end
pub record Left (E : Equations) (m : List ℕ) (i : SignalSet) (a : Arrays) : Type 0 where
  pub outs : a.outs ≡ map (bit_of (solution E m i)) E.outputs
  pub next : take (registers E) a.words ≡ map (word_of (solution E m i)) E.next

inputs_part : (E : Equations) (m : List ℕ) (i : SignalSet) (a : Arrays) → length i ≡ E.inputs → Fits E m a
    → all_done i (input_statements 0 E.inputs) a ≡ filled (known i m) (drop (length i) a.bits) (drop (registers E) a.words) a.outs
inputs_part E m i a input fits =
    let whole : a.words ≡ m ++ drop (registers E) a.words = sym (take-append-drop (registers E) a.words) ∙ ap (λ (z : List ℕ). z ++ drop (registers E) a.words) fits.registers in
    ap (λ (k : ℕ). all_done i (input_statements 0 k) a) (sym input)
    ∙ ap (λ (z : List ℕ). all_done i (input_statements 0 (length i)) (arrays z a.bits a.outs)) whole
    ∙ inputs_done i [] i (m ++ drop (registers E) a.words) a.bits a.outs refl (omega (arith, fits.bits))

lines_part : (E : Equations) (m : List ℕ) (i : SignalSet) (x : List Bool) (y : List ℕ) (o : List Bool) → IsOrdered E → length i ≡ E.inputs → length m ≡ registers E → Small m → bit_lines E.lines ≤ length x → length y ≡ word_lines E.lines
    → all_done i (line_statements E.inputs (registers E) E.lines) (filled (known i m) x y o) ≡ filled (solution E m i) (drop (bit_lines E.lines) x) [] o
lines_part E m i x y o ordered input memory small b w =
    let walk : IsTrue (lines_in_order (length i) (length m) E.lines) = subst (λ (k : ℕ). IsTrue (lines_in_order k (length m) E.lines)) (sym input) (subst (λ (k : ℕ). IsTrue (lines_in_order E.inputs k E.lines)) (sym memory) (IsOrdered-walk E ordered)) in
    ap (λ (k : ℕ). all_done i (line_statements k (registers E) E.lines) (filled (known i m) x y o)) (sym input)
    ∙ ap (λ (k : ℕ). all_done i (line_statements (length i) k E.lines) (filled (known i m) x y o)) (sym memory)
    ∙ lines_done i E.lines (known i m) x y o walk small b (omega arith)
    ∙ ap (λ (z : List ℕ). filled (solution E m i) (drop (bit_lines E.lines) x) z o) (drop_all (word_lines E.lines) y (omega arith))

outs_part : (E : Equations) (i : SignalSet) (t : Values) (w : List ℕ) (x o : List Bool) → IsTrue (all_below (length t.bits) E.outputs) → length o ≡ length E.outputs
    → all_done i (out_statements 0 E.outputs) (arrays w (t.bits ++ x) o) ≡ arrays w (t.bits ++ x) (map (bit_of t) E.outputs)
outs_part E i t w x o exist sized =
    outs_done i E.outputs w (t.bits ++ x) [] o (omega arith)
    ∙ ap (λ (z : List Bool). arrays w (t.bits ++ x) (map (has (t.bits ++ x)) E.outputs ++ z)) (drop_all (length E.outputs) o (omega arith))
    ∙ ap (λ (z : List Bool). arrays w (t.bits ++ x) z) (append-nil (map (has (t.bits ++ x)) E.outputs) ∙ bits_read t x E.outputs exist)

registers_part : (E : Equations) (i : SignalSet) (t : Values) (m back : List ℕ) (b o : List Bool) → t.words ≡ m ++ back → length m ≡ length E.next → Behind (length m) (word_count E) E.next
    → all_done i (register_statements 0 E.next) (arrays (t.words ++ []) b o) ≡ arrays (map (word_of t) E.next ++ back) b o
registers_part E i t m back b o e sized behind =
    let nothing_before : length m ≡ 0 + length m = omega arith in
    ap (λ (z : List ℕ). all_done i (register_statements 0 E.next) (arrays z b o)) (append-nil t.words ∙ e)
    ∙ registers_done i (word_count E) E.next [] m back b o sized (subst (λ (k : ℕ). Behind k (word_count E) E.next) nothing_before behind)
    ∙ ap (λ (z : List ℕ). arrays (z ++ back) b o) (words_read t m back (word_count E) E.next e behind)

pub step_done : (E : Equations) (m : List ℕ) (i : SignalSet) (a : Arrays) → IsOrdered E → length i ≡ E.inputs → length m ≡ registers E → Small m → Fits E m a → Left E m i (all_done i (statements_of E) a)
step_done E m i a ordered input memory small fits =
    let t : Values = solution E m i in
    let x : List Bool = drop (length i) a.bits in
    let y : List ℕ = drop (registers E) a.words in
    let x' : List Bool = drop (bit_lines E.lines) x in
    let walk : IsTrue (lines_in_order (length i) (length m) E.lines) = subst (λ (k : ℕ). IsTrue (lines_in_order k (length m) E.lines)) (sym input) (subst (λ (k : ℕ). IsTrue (lines_in_order E.inputs k E.lines)) (sym memory) (IsOrdered-walk E ordered)) in
    let back : List ℕ = flat_map (defined_words t) E.lines in
    let begins : t.words ≡ m ++ back = (evaluated-completes E.lines (known i m) walk).words in
    let b : bit_lines E.lines ≤ length x = omega (arith, length-drop (length i) a.bits, fits.bits) in
    let w : length y ≡ word_lines E.lines = omega (arith, length-drop (registers E) a.words, fits.words) in
    let bits : bit_count E ≡ length t.bits = omega (arith, bits-evaluated E.lines (known i m)) in
    let s₁ = input_statements 0 E.inputs in
    let s₂ = line_statements E.inputs (registers E) E.lines in
    let s₃ = out_statements 0 E.outputs in
    let s₄ = register_statements 0 E.next in
    let sized : length m ≡ length E.next = memory ∙ sym ordered.next_sized in
    let end : all_done i (statements_of E) a ≡ arrays (map (word_of t) E.next ++ back) (t.bits ++ x') (map (bit_of t) E.outputs) =
    all_done-append i s₁ (s₂ ++ (s₃ ++ s₄)) a
    ∙ ap (λ (z : Arrays). all_done i (s₂ ++ (s₃ ++ s₄)) z) (inputs_part E m i a input fits)
    ∙ all_done-append i s₂ (s₃ ++ s₄) (filled (known i m) x y a.outs)
    ∙ ap (λ (z : Arrays). all_done i (s₃ ++ s₄) z) (lines_part E m i x y a.outs ordered input memory small b w)
    ∙ all_done-append i s₃ s₄ (filled t x' [] a.outs)
    ∙ ap (λ (z : Arrays). all_done i s₄ z) (outs_part E i t (t.words ++ []) x' a.outs (subst (λ (k : ℕ). IsTrue (all_below k E.outputs)) bits ordered.outputs_exist) fits.outs)
    ∙ registers_part E i t m back (t.bits ++ x') (map (bit_of t) E.outputs) begins sized (subst (λ (k : ℕ). Behind k (word_count E) E.next) (sym memory) ordered.next_exist)
    in
    let front : length (map (word_of t) E.next) ≡ registers E = length-map E.next (word_of t) ∙ ordered.next_sized in
    record {
      outs = ap (λ (z : Arrays). z.outs) end;
      next = ap (λ (z : Arrays). take (registers E) z.words) end ∙ ap (λ (k : ℕ). take k (map (word_of t) E.next ++ back)) (sym front) ∙ take-append_seam (map (word_of t) E.next) back;
    }
