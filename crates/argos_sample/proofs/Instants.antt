-- A loop of steps that counts the instants in which the output is emitted.
use Rattle.std.proofs.Common.{◌≡◌, ap, refl, true, false, ◌∙◌, sym, subst, arith}
use Rattle.std.specs.Prelude.{ℕ, zero, suc, ◌+◌, ◌≤◌, List, [], ◌∷◌, ◌++◌, Bool, length, filter, if◌then◌else◌}
use Rattle.argos_base.specs.SignalSets.{SignalSet, has}
use Rattle.eqn_core.specs.Equations.{Equations}
use Rattle.eqn_core.specs.Running.{Running, StepsTo}
use Rattle.eqn_core.specs.Solutions.{SystemReacts, RunsTo, bit_of}
use Rattle.std.proofs.lemmas.List.{length-map}
use Rattle.eqn_core.proofs.Once.{runs_begin, runs_go_on}
use Rattle.argos_sample.specs.Emitted.{present_in, emitted_in}
use Rattle.argos_sample.specs.Running.{RunEmits}

-- after so many instants the memory is this one, and the output was emitted so often
pub record EmitsSoFar (E : Equations) (instants emitted : ℕ) (memory : List ℕ) : Type 0 where
  pub outputs : List SignalSet
  pub runs : RunsTo E (present_in instants) outputs memory
  pub counted : emitted ≡ emitted_in outputs
  pub few : emitted ≤ instants

pub none_yet : (E : Equations) → EmitsSoFar E 0 0 E.initial
none_yet E = record { outputs = []; runs = runs_begin E; counted = refl; few = omega arith }

present_more : (k : ℕ) → present_in k ++ (true ∷ []) ∷ [] ≡ present_in (k + 1)
present_more zero = refl
present_more (suc k) = ap (λ (is : List SignalSet). (true ∷ []) ∷ is) (present_more k) ∙ (let e : suc (k + 1) ≡ suc k + 1 = omega arith in ap present_in e)

abbrev one_if : Bool → ℕ
one_if b = if b then 1 else 0

length_more : (b : Bool) (o : SignalSet) (rest : List SignalSet) → length (if b then o ∷ rest else rest) ≡ one_if b + length rest
length_more true o rest = omega arith
length_more false o rest = omega arith

emitted_more : (outputs : List SignalSet) (o : SignalSet) → emitted_in (outputs ++ o ∷ []) ≡ emitted_in outputs + one_if (has o 0)
emitted_more [] o = length_more (has o 0) o [] ∙ omega arith
emitted_more (p ∷ outputs) o =
    length_more (has p 0) p (filter (λ q. has q 0) (outputs ++ o ∷ [])) ∙ ap (λ n. one_if (has p 0) + n) (emitted_more outputs o)
    ∙ (let e = length_more (has p 0) p (filter (λ q. has q 0) outputs) in omega (arith, e))

one_is_little : (b : Bool) → one_if b ≤ 1
one_is_little true = omega arith
one_is_little false = omega arith

one_more : (E : Equations) (k emitted : ℕ) (memory after : List ℕ) (o : SignalSet) → EmitsSoFar E k emitted memory → SystemReacts E memory (true ∷ []) o after
    → EmitsSoFar E (k + 1) (emitted + one_if (has o 0)) after
one_more E k emitted memory after o h r = record {
  outputs = h.outputs ++ o ∷ [];
  runs = subst (λ (is : List SignalSet). RunsTo E is (h.outputs ++ o ∷ []) after) (present_more k) (runs_go_on E (present_in k) h.outputs memory (true ∷ []) o after h.runs r);
  counted = ap (λ n. n + one_if (has o 0)) h.counted ∙ sym (emitted_more h.outputs o);
  few = (let f = h.few in let g = one_is_little (has o 0) in omega (arith, f, g));
}

-- with the output, and without it
pub emitting : (E : Equations) (k emitted : ℕ) (memory after : List ℕ) (o : SignalSet) → EmitsSoFar E k emitted memory → SystemReacts E memory (true ∷ []) o after → has o 0 ≡ true
    → EmitsSoFar E (k + 1) (emitted + 1) after
emitting E k emitted memory after o h r is = subst (λ (b : Bool). EmitsSoFar E (k + 1) (emitted + one_if b) after) is (one_more E k emitted memory after o h r)

pub silent : (E : Equations) (k emitted : ℕ) (memory after : List ℕ) (o : SignalSet) → EmitsSoFar E k emitted memory → SystemReacts E memory (true ∷ []) o after → has o 0 ≡ false
    → EmitsSoFar E (k + 1) emitted after
silent E k emitted memory after o h r is = subst (λ (n : ℕ). EmitsSoFar E (k + 1) n after) (omega arith)
    (subst (λ (b : Bool). EmitsSoFar E (k + 1) (emitted + one_if b) after) is (one_more E k emitted memory after o h r))

pub in_the_end : (E : Equations) (k emitted : ℕ) (memory : List ℕ) → EmitsSoFar E k emitted memory → RunEmits E k emitted
in_the_end E k emitted memory h = record { outputs = h.outputs; runs = (h.runs.memories, h.runs.runs); counted = h.counted }

-- one more step of a stepper: where it emits, and where it doesn't
module _ (E : Equations) (k emitted : ℕ) (x y : Running) (i o : SignalSet) (so_far : EmitsSoFar E k emitted x.memory) (same : x.equations ≡ E) (present : i ≡ true ∷ []) (steps : StepsTo x i o y) where
  reacts : SystemReacts E x.memory (true ∷ []) o y.memory
  reacts = subst (λ (F : Equations). SystemReacts F x.memory (true ∷ []) o y.memory) same (subst (λ (j : SignalSet). SystemReacts x.equations x.memory j o y.memory) present steps.reacts)

  pub with_output : has o 0 ≡ true → EmitsSoFar E (k + 1) (emitted + 1) y.memory
  with_output is = emitting E k emitted x.memory y.memory o so_far reacts is

  pub without_output : has o 0 ≡ false → EmitsSoFar E (k + 1) emitted y.memory
  without_output is = silent E k emitted x.memory y.memory o so_far reacts is

  pub one_output : length E.outputs ≡ 1 → length o ≡ 1
  one_output one = ap length reacts.outputs ∙ length-map E.outputs (bit_of reacts.values) ∙ one
