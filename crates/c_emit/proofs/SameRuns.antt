-- The C step of an ordered system reacts as the system, and so has its runs.
use Rattle.std.proofs.Common.{◌≡◌, ℕ, zero, suc, ◌+◌, List, [], ◌∷◌, ◌++◌, false, IsTrue, length, take, map, refl, sym, ap, ◌∙◌, subst, length-append, arith}
use Rattle.std.specs.Prelude.{max, replicate}
use Rattle.std.proofs.Math.Seq.{take-append_seam}
use Rattle.std.proofs.lemmas.List.{length-replicate}
use Rattle.argos_base.specs.Runs.{Follows}
use Rattle.argos_base.specs.SignalSets.{SignalSet}
use Rattle.argos_base.proofs.Bools.{and_both}
use Rattle.eqn_core.specs.Equations.{Line, bits_of_line, words_of_line, Equations, registers, bit_count, word_lines}
use Rattle.eqn_core.specs.inner.LineValues.{known}
use Rattle.eqn_core.specs.Ordered.{IsOrdered}
use Rattle.eqn_core.specs.inner.OrderTest.{lines_in_order}
use Rattle.eqn_core.specs.Solutions.{Values, bit_of, word_of, Solves, SystemReacts}
use Rattle.eqn_core.proofs.InOrder.{IsOrdered-walk}
use Rattle.eqn_core.proofs.Evaluation.{evaluated-completes, completes-is_evaluated}
use Rattle.line_format.specs.FileNames.{FileNames, HasNames}
use Rattle.c_step.specs.CRuns.{Arrays, all_done, Holds, CReacts}
use Rattle.c_emit.specs.COf.{input_statements, line_statements, out_statements, register_statements, statements_of, c_of}
use Rattle.c_emit.specs.Laws.{CReactsAsSystem, CRunsAsSystem, CStatementsCounted}
use Rattle.c_emit.proofs.LineSteps.{arrays, Small, below_test, small_at, evaluated-small}
use Rattle.c_emit.proofs.StepResult.{Fits, Left, solution, step_done}

walk_at : (E : Equations) (m : List ℕ) (i : SignalSet) → IsOrdered E → length i ≡ E.inputs → length m ≡ registers E → IsTrue (lines_in_order (length i) (length m) E.lines)
walk_at E m i ordered input memory = subst (λ (k : ℕ). IsTrue (lines_in_order k (length m) E.lines)) (sym input) (subst (λ (k : ℕ). IsTrue (lines_in_order E.inputs k E.lines)) (sym memory) (IsOrdered-walk E ordered))

only_solution : (E : Equations) (m : List ℕ) (i : SignalSet) (s : Values) → IsOrdered E → Solves E m i s → s ≡ solution E m i
only_solution E m i s ordered h = completes-is_evaluated E.lines (known i m) s (walk_at E m i ordered h.input h.memory) h.lines

fits-from_holds : (E : Equations) (n : FileNames) (m : List ℕ) (a : Arrays) → HasNames E n → Holds (c_of E n) m a → Fits E m a
fits-from_holds E n m a names h = record { words = h.words; bits = omega (arith, h.bits); outs = h.outs ∙ names.outputs; registers = h.registers }

pub c_reacts : (E : Equations) (n : FileNames) (m : List ℕ) (i o : SignalSet) (m' : List ℕ) → IsOrdered E → HasNames E n → Small m → SystemReacts E m i o m' → CReacts (c_of E n) m i o m'
c_reacts E n m i o m' ordered names small h =
    let same : h.values ≡ solution E m i = only_solution E m i h.values ordered h.solves in
    let left : (a : Arrays) → Holds (c_of E n) m a → Left E m i (all_done i (statements_of E) a) = λ a k. step_done E m i a ordered h.solves.input h.solves.memory small (fits-from_holds E n m a names k) in
    record {
      input = h.solves.input ∙ sym names.inputs;
      memory = h.solves.memory;
      room = omega arith;
      outs = λ a k. (left a k).outs ∙ ap (λ (s : Values). map (bit_of s) E.outputs) (sym same) ∙ sym h.outputs;
      next = λ a k. (left a k).next ∙ ap (λ (s : Values). map (word_of s) E.next) (sym same) ∙ sym h.next;
    }

-- some arrays with this memory
some_arrays : (E : Equations) (n : FileNames) (m : List ℕ) → Arrays
some_arrays E n m = arrays (m ++ replicate (word_lines E.lines) 0) (replicate (max 1 (bit_count E)) false) (replicate (length n.outputs) false)

some_arrays-hold : (E : Equations) (n : FileNames) (m : List ℕ) → length m ≡ registers E → Holds (c_of E n) m (some_arrays E n m)
unfolding some_arrays
some_arrays-hold E n m memory = record {
  words = length-append m (replicate (word_lines E.lines) 0) ∙ omega (arith, length-replicate {A = ℕ} (word_lines E.lines) 0);
  bits = length-replicate (max 1 (bit_count E)) false;
  outs = length-replicate (length n.outputs) false;
  registers = ap (λ (k : ℕ). take k (m ++ replicate (word_lines E.lines) 0)) (sym memory) ∙ take-append_seam m (replicate (word_lines E.lines) 0);
}

pub system_reacts : (E : Equations) (n : FileNames) (m : List ℕ) (i o : SignalSet) (m' : List ℕ) → IsOrdered E → HasNames E n → Small m → CReacts (c_of E n) m i o m' → SystemReacts E m i o m'
system_reacts E n m i o m' ordered names small h =
    let input : length i ≡ E.inputs = h.input ∙ names.inputs in
    let a : Arrays = some_arrays E n m in
    let holds : Holds (c_of E n) m a = some_arrays-hold E n m h.memory in
    let left : Left E m i (all_done i (statements_of E) a) = step_done E m i a ordered input h.memory small (fits-from_holds E n m a names holds) in
    record {
      values = solution E m i;
      solves = record { input = input; memory = h.memory; lines = evaluated-completes E.lines (known i m) (walk_at E m i ordered input h.memory) };
      outputs = sym (h.outs a holds) ∙ left.outs;
      next = sym (h.next a holds) ∙ left.next;
    }

pub reacts_as_system : CReactsAsSystem
reacts_as_system E n m i o m' ordered names small = (c_reacts E n m i o m' ordered names small, system_reacts E n m i o m' ordered names small)

map-small : (t : Values) (ks : List ℕ) → Small t.words → Small (map (word_of t) ks)
map-small t [] h = refl
map-small t (k ∷ ks) h = and_both _ _ (below_test _ _ (small_at t.words k h)) (map-small t ks h)

-- 16-bit memories stay such
stays_small : (E : Equations) (m : List ℕ) (i o : SignalSet) (m' : List ℕ) → IsOrdered E → Small m → SystemReacts E m i o m' → Small m'
stays_small E m i o m' ordered small h =
    let same : h.values ≡ solution E m i = only_solution E m i h.values ordered h.solves in
    let words : Small (solution E m i).words = evaluated-small E.lines (known i m) small (walk_at E m i ordered h.solves.input h.solves.memory) in
    subst Small (sym (h.next ∙ ap (λ (s : Values). map (word_of s) E.next) same)) (map-small (solution E m i) E.next words)

-- two machines that react alike from good memories, and stay in them, follow alike
abbrev Machine : Type 1
Machine = List ℕ → SignalSet → SignalSet → List ℕ → Type 0

follow_alike : (R Q : Machine) (Good : List ℕ → Type 0) → ((m : List ℕ) (i o : SignalSet) (m' : List ℕ) → Good m → R m i o m' → Q m i o m' × Good m') → (m : List ℕ) (is os : List SignalSet) (ms : List (List ℕ)) → Good m → Follows R m is os ms → Follows Q m is os ms
follow_alike R Q Good step m [] [] [] g h = tt
follow_alike R Q Good step m [] [] (n ∷ ms) g h = h
follow_alike R Q Good step m [] (o ∷ os) ms g h = h
follow_alike R Q Good step m (i ∷ is) [] ms g h = h
follow_alike R Q Good step m (i ∷ is) (o ∷ os) [] g h = h
follow_alike R Q Good step m (i ∷ is) (o ∷ os) (n ∷ ms) g h = let s = step m i o n g h.0 in (s.0, follow_alike R Q Good step n is os ms s.1 h.1)

pub runs_as_system : CRunsAsSystem
runs_as_system E n ordered names = λ is os ms. (
  follow_alike (SystemReacts E) (CReacts (c_of E n)) Small
      (λ m i o m' g h. (c_reacts E n m i o m' ordered names g h, stays_small E m i o m' ordered g h)) E.initial is os ms ordered.codes,
  follow_alike (CReacts (c_of E n)) (SystemReacts E) Small
      (λ m i o m' g h. let k : SystemReacts E m i o m' = system_reacts E n m i o m' ordered names g h in (k, stays_small E m i o m' ordered g k)) E.initial is os ms ordered.codes,
)

count_inputs : (j n : ℕ) → length (input_statements j n) ≡ n
count_inputs j zero = refl
count_inputs j (suc n) = omega (arith, count_inputs (j + 1) n)

count_outs : (j : ℕ) (ks : List ℕ) → length (out_statements j ks) ≡ length ks
count_outs j [] = refl
count_outs j (k ∷ ks) = omega (arith, count_outs (j + 1) ks)

count_registers : (j : ℕ) (ks : List ℕ) → length (register_statements j ks) ≡ length ks
count_registers j [] = refl
count_registers j (k ∷ ks) = omega (arith, count_registers (j + 1) ks)

count_lines : (b w : ℕ) (lines : List Line) → length (line_statements b w lines) ≡ length lines
count_lines b w [] = refl
count_lines b w (l ∷ lines) = omega (arith, count_lines (b + bits_of_line l) (w + words_of_line l) lines)

pub statements_counted : CStatementsCounted
statements_counted E n ordered =
    let s₁ = input_statements 0 E.inputs in
    let s₂ = line_statements E.inputs (registers E) E.lines in
    let s₃ = out_statements 0 E.outputs in
    let s₄ = register_statements 0 E.next in
    omega (arith, length-append s₁ (s₂ ++ (s₃ ++ s₄)), length-append s₂ (s₃ ++ s₄), length-append s₃ s₄, count_inputs 0 E.inputs, count_lines E.inputs (registers E) E.lines, count_outs 0 E.outputs, count_registers 0 E.next, ordered.next_sized)
