-- From the equations of a module, sorted, to a module that is accepted.
use Rattle.std.proofs.Common.{◌≡◌, ◌≢◌, ◌↔◌, ℕ, zero, suc, ◌+◌, ◌<◌, ◌≤◌, List, [], ◌∷◌, true, nat_eq, length, inl, inr, refl, sym, ap, ◌∙◌, arith}
use Rattle.std.specs.List.{range_with_len}
use Rattle.std.proofs.lemmas.Bool.Decides.{nat_tests}
use Rattle.argos_base.proofs.Bools.{true_or_false, or_cases, or_left, or_right}
use Rattle.argos_base.specs.SignalSets.{SignalSet, lists}
use Rattle.argos_core.specs.Codes.{code_of, IsStructural}
use Rattle.argos_core.specs.Automata.{register_count}
use Rattle.argos_core.specs.Modules.{IsShaped}
use Rattle.argos_core.specs.Process.{Process, automaton, parallel, local, freeze, no_processes, process, PlainModule}
use Rattle.argos_core.specs.Reactions.{input_count, output_count, signal_count, initial_of}
use Rattle.eqn_build.specs.Promises.{ReactsAs, IsCyclicAs}
use Rattle.eqn_core.specs.Equations.{Equations}
use Rattle.eqn_core.specs.Plans.{IsPlanOf}
use Rattle.eqn_core.proofs.PlanLemmas.{cyclic_all}
use Rattle.eqn_core.specs.Solutions.{SystemReacts}
use Rattle.argos_compile.specs.Accepting.{HasCycle}
use Rattle.argos_compile.specs.Systems.{IsSystemOf}

pub in_range : (k from count : ℕ) → lists (range_with_len from count) k ≡ true → (from ≤ k) × (k < from + count)
in_range k from zero h = cc
in_range k from (suc count) h = elim (or_cases (nat_eq from k) (lists (range_with_len (from + 1) count) k) h) [
  | inl e ↦ (let same : from ≡ k = grind (arith, nat_tests) in (omega arith, omega arith))
  | inr later ↦ (let r = in_range k (from + 1) count later in (omega (arith, r.0), omega (arith, r.1)))
]

range_has : (k from count : ℕ) → from ≤ k → k < from + count → lists (range_with_len from count) k ≡ true
range_has k from zero low high = absurd (omega arith)
range_has k from (suc count) low high = elim (true_or_false (nat_eq from k)) [
  | inl e ↦ or_left (nat_eq from k) (lists (range_with_len (from + 1) count) k) e
  | inr o ↦ or_right (nat_eq from k) (lists (range_with_len (from + 1) count) k) (range_has k (from + 1) count (let other : from ≢ k = grind (arith, nat_tests) in omega arith) (omega arith))
]

-- the local bits of a system are numbered as the module's locals
pub local_range : (P : PlainModule) (locals : List ℕ) (k : ℕ) → locals ≡ range_with_len (input_count P + output_count P) (length P.locals) → lists locals k ≡ true → (input_count P + output_count P ≤ k) × (k < signal_count P)
local_range P locals k e l = in_range k (input_count P + output_count P) (length P.locals) (ap (λ ks. lists ks k) (sym e) ∙ l)

-- with no cyclic bit no local depends on itself
pub no_cycle_left : (P : PlainModule) (E : Equations) (order cyclic : List ℕ) → IsPlanOf E order cyclic → E.locals ≡ range_with_len (input_count P + output_count P) (length P.locals) → IsCyclicAs P E → length cyclic ≡ 0 → ¬ (HasCycle P)
no_cycle_left P E order cyclic plan locals same e h =
    let c = h.1 in
    let local : lists E.locals h.0 ≡ true = ap (λ ks. lists ks h.0) locals ∙ range_has h.0 (input_count P + output_count P) (length P.locals) c.after_outputs c.exists in
    none cyclic e h.0 (cyclic_all E cyclic plan.cyclic_bits h.0 local ((same h.0 c.after_outputs c.exists).1 c))
  where
    none : (ks : List ℕ) → length ks ≡ 0 → (k : ℕ) → lists ks k ≡ true → ⊥
    none [] e k l = cc
    none (x ∷ ks) e k l = absurd (omega arith)

length-range : (from count : ℕ) → length (range_with_len from count) ≡ count
length-range from zero = refl
length-range from (suc count) = ap suc (length-range (from + 1) count)

-- what is promised of a module's equations makes them a system of its own
pub own_system : (P : PlainModule) (E : Equations) → E.inputs ≡ input_count P → E.outputs ≡ range_with_len (input_count P) (output_count P) → E.initial ≡ code_of P.process (initial_of P) → ReactsAs P E → IsSystemOf P E
own_system P E inputs outputs initial reacts = record { inputs = inputs; outputs = ap length outputs ∙ length-range (input_count P) (output_count P); initial = initial; reacts = reacts }

-- and a system with the same reactions at structural memories is one too
pub same_system : (P : PlainModule) (E F : Equations) → IsSystemOf P E → F.inputs ≡ E.inputs → F.initial ≡ E.initial → length F.outputs ≡ length E.outputs
    → ((m : List ℕ) (i o : SignalSet) (m' : List ℕ) → IsStructural P.process m → (SystemReacts F m i o m') ↔ (SystemReacts E m i o m')) → IsSystemOf P F
same_system P E F own inputs initial outputs same = record {
  inputs = inputs ∙ own.inputs;
  outputs = outputs ∙ own.outputs;
  initial = initial ∙ own.initial;
  reacts = λ m i o m' st. let a = same m i o m' st in let b = own.reacts m i o m' st in (λ h. b.0 (a.0 h), λ h. a.1 (b.1 h));
}

-- each process has an automaton
pub some_register : (p : Process) → IsShaped p → 1 ≤ register_count p
some_register (automaton ss q) h = omega arith
some_register (parallel no_processes) h = absurd (let few = h.0 in omega arith)
some_register (parallel (process p ps)) h = let one = some_register p h.1.0 in omega (arith, one)
some_register (local list p) h = some_register p h
some_register (freeze s p) h = some_register p h
