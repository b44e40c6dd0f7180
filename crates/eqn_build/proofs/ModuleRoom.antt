-- The room that a module's lines take, and what its parts say of the whole.
use Rattle.std.proofs.Common.{◌≡◌, ℕ, zero, suc, ◌+◌, ◌-◌, ◌*◌, ◌^◌, ◌<◌, ◌≤◌, List, [], ◌∷◌, ◌++◌, refl, sym, ap, ◌∙◌, subst, arith, length, add-one}
use Rattle.std.specs.List.{range_with_len}
use Rattle.argos_core.specs.Automata.{register_count}
use Rattle.argos_core.specs.Modules.{IsModule}
use Rattle.argos_core.specs.Process.{PlainModule}
use Rattle.argos_core.specs.Reactions.{input_count, output_count, signal_count}
use Rattle.argos_core.specs.Sizes.{size_of}
use Rattle.eqn_core.specs.Equations.{Line, bit_lines, word_lines}
use Rattle.eqn_core.specs.Equations as lines
use Rattle.eqn_core.proofs.Walks.{bit_and_word_lines}
use Rattle.eqn_scheme.specs.Scheme.{plus, minus, process_bits, process_lines, process_fires, signal_lines, inner_lines, fires_of_module, equations_of}
use Rattle.eqn_scheme.proofs.Bounds.{equations_are_small}
use Rattle.eqn_scheme.proofs.Counting.{bits-append, bits-process}
use Rattle.eqn_build.proofs.Emissions.{module_emits}
use Rattle.eqn_build.specs.inner.BuilderViews.{EmitFrom}
use Rattle.eqn_build.specs.inner.ModuleLines.{module_lines}

pub module_room : (P : PlainModule) → IsModule P → input_count P + (output_count P + length P.locals) + 1 + process_bits P.process < 2 ^ 32
module_room P is =
    let n = signal_count P in
    let signals = signal_lines (fires_of_module P) (input_count P) (output_count P + length P.locals) in
    omega (arith, bit_and_word_lines (equations_of P).lines, bits-append signals (inner_lines P), bits-process P.process n (suc n) 0 (plus n) (minus n) (minus n), (equations_are_small P).0, is.size, is.signals)

pub module_numbers : (P : PlainModule) → IsModule P → (register_count P.process < 2 ^ 16) × (signal_count P < 2 ^ 16)
module_numbers P is = (omega (arith, is.automata), omega (arith, is.signals))

pub emit_with : (P : PlainModule) (inputs outputs locals b : ℕ) → IsModule P → inputs ≡ input_count P → outputs ≡ output_count P → locals ≡ length P.locals → EmitFrom inputs (outputs + locals) (process_fires P.process b)
emit_with P inputs outputs locals b is ei eo el =
    let others : output_count P + length P.locals ≡ outputs + locals = omega arith in
    subst (λ (k : ℕ). EmitFrom k (outputs + locals) (process_fires P.process b)) (sym ei) (subst (λ (k : ℕ). EmitFrom (input_count P) k (process_fires P.process b)) others (module_emits P b is))

pub module_lines-are : (P : PlainModule) → module_lines P.process (input_count P) (output_count P + length P.locals) ≡ (equations_of P).lines
module_lines-are P =
    let count = output_count P + length P.locals in
    let e : input_count P + count ≡ signal_count P = omega arith in
    let f : (k : ℕ) → k + 1 ≡ suc k = λ k. omega arith in
    let given = λ (n m : ℕ). signal_lines (process_fires P.process m) (input_count P) count ++ lines.all [] ∷ process_lines P.process n m 0 (plus n) (minus n) (minus n) in
    ap (λ (k : ℕ). given k (k + 1)) e ∙ ap (given (signal_count P)) (f (signal_count P))

-- numbers from one on
pub range-next : (number end : ℕ) → number < end → range_with_len number (end - number) ≡ number ∷ range_with_len (number + 1) (end - (number + 1))
range-next number end below = let e : end - number ≡ suc (end - (number + 1)) = omega arith in ap (range_with_len number) e

pub range-none : (number end : ℕ) → end ≤ number → range_with_len number (end - number) ≡ []
range-none number end past = let e : end - number ≡ 0 = omega arith in ap (range_with_len number) e
