-- What reacts, and the one trace that what can be simulated has to the lines of an input.
use Rattle.std.proofs.Common.{List, [], ap, arith, length, map, refl, subst, suc, sym, take, zero, ℕ, ◌++◌, ◌-◌, ◌<◌, ◌∙◌, ◌∷◌, ◌≡◌, false, length-append}
use Rattle.std.proofs.Math.Logic.{∥∥₁_elim}
use Rattle.std.proofs.Math.Seq.{take-append_seam}
use Rattle.std.proofs.Props.{props}
use Rattle.std.proofs.lemmas.Grind.{common_steps}
use Rattle.std.proofs.lemmas.List.{length-map, length-replicate, length-set}
use Rattle.std.specs.Prelude.{All, replicate, slice_index_or}
use Rattle.argos_base.specs.Names.{Spelled}
use Rattle.argos_base.specs.Runs.{Follows}
use Rattle.argos_base.specs.SignalSets.{SignalSet, has}
use Rattle.argos_aspects.specs.Aspects.{AllFit}
use Rattle.argos_aspects.specs.Weaving.{WovenConfiguration, woven_initial, IsWovenConfiguration, WovenStep, HasOneWovenStep}
use Rattle.argos_aspects.proofs.WovenLaws.{woven_initial_is_one, woven_steps_once}
use Rattle.argos_compile.specs.Weaving.{WovenProgram}
use Rattle.argos_core.specs.Overlaps.{IsGood}
use Rattle.argos_core.specs.Reactions.{input_count, output_count}
use Rattle.c_step.specs.CRuns.{Arrays, done, all_done, Holds, CReacts}
use Rattle.c_step.specs.CStep.{CStat, set_bit, set_word, set_out, CStep, IsCStep}
use Rattle.c_step.specs.Running as c_running
use Rattle.c_step.proofs.StepRuns as c_steps_of
use Rattle.eqn_core.specs.Equations.{Equations}
use Rattle.eqn_core.specs.Ordered.{IsOrdered}
use Rattle.eqn_core.specs.Running.{Running, start_of, StepsTo}
use Rattle.eqn_core.specs.Solutions.{bit_of, SystemReacts}
use Rattle.eqn_core.proofs.Once.{runs_once, steps_are_runs}
use Rattle.line_format.specs.FileNames.{FileNames}
use Rattle.trace_io.specs.Lines.{raws_from}
use Rattle.trace_io.specs.Whole.{Reading, lines_left}
use Rattle.trace_io.proofs.TraceEnds.{AreSized, sets-sized}
use Rattle.argos_load.specs.Runnables.{Runnable, program, equations, c_steps, input_names, HasTrace}
use Rattle.argos_top.specs.inner.Lines.{IsRunOf}
use Rattle.argos_top.proofs.Given.{IsGivenRunnable}

-- what a stepper tells keeps its equations, and has a place for each output

pub steps_same : (x y : Running) (i o : SignalSet) → StepsTo x i o y → y.equations ≡ x.equations
steps_same x y i o h = h.same

pub steps_sized : (x y : Running) (i o : SignalSet) → StepsTo x i o y → length o ≡ length y.equations.outputs
steps_sized x y i o h = ap length h.reacts.outputs ∙ length-map x.equations.outputs (bit_of h.reacts.values) ∙ ap (λ (E : Equations). length E.outputs) (sym h.same)

pub ruleset steps = (common_steps, steps_same, steps_sized)

-- and so does what a C step tells

one_kept : (i : SignalSet) (x : CStat) (a : Arrays) → length (done i x a).outs ≡ length a.outs
one_kept i (set_bit k v) a = refl
one_kept i (set_word k cases other) a = refl
one_kept i (set_out j k) a = length-set a.outs j (has a.bits k)

outs_kept : (i : SignalSet) (xs : List CStat) (a : Arrays) → length (all_done i xs a).outs ≡ length a.outs
outs_kept i [] a = refl
outs_kept i (x ∷ xs) a = outs_kept i xs (done i x a) ∙ one_kept i x a

some_arrays : CStep → List ℕ → Arrays
some_arrays s m = record { words = m ++ replicate (s.words - length m) 0; bits = replicate s.bits false; outs = replicate (length s.names.outputs) false }

some_arrays-hold : (s : CStep) (m : List ℕ) (i o : SignalSet) (m' : List ℕ) → CReacts s m i o m' → Holds s m (some_arrays s m)
unfolding some_arrays
some_arrays-hold s m i o m' h = record {
  words = length-append m (replicate (s.words - length m) 0) ∙ omega (arith, length-replicate {A = ℕ} (s.words - length m) 0, h.memory, h.room);
  bits = length-replicate s.bits false;
  outs = length-replicate (length s.names.outputs) false;
  registers = ap (λ (k : ℕ). take k (m ++ replicate (s.words - length m) 0)) (sym h.memory) ∙ take-append_seam m (replicate (s.words - length m) 0);
}

pub c_steps_same : (x y : c_running.Running) (i o : SignalSet) → c_running.StepsTo x i o y → y.step ≡ x.step
c_steps_same x y i o h = h.same

pub c_steps_sized : (x y : c_running.Running) (i o : SignalSet) → c_running.StepsTo x i o y → length o ≡ length y.step.names.outputs
c_steps_sized x y i o h =
    let holds = some_arrays-hold x.step x.memory i o y.memory h.reacts in
    ap length (sym (h.reacts.outs (some_arrays x.step x.memory) holds)) ∙ outs_kept i x.step.statements (some_arrays x.step x.memory) ∙ holds.outs ∙ ap (λ (s : CStep). length s.names.outputs) (sym h.same)

pub ruleset c_running_steps = (common_steps, c_steps_same, c_steps_sized)

-- what can be run has one trace to these inputs
pub record HasOne (r : Runnable) (is : List SignalSet) : Type 0 where
  pub outputs : List SignalSet
  pub has : HasTrace r is outputs
  pub only : (others : List SignalSet) → HasTrace r is others → others ≡ outputs

-- so what merely has a trace has it
pub the_trace : (r : Runnable) (is outputs : List SignalSet) → HasOne r is → ∥ HasTrace r is outputs ∥₁ → HasTrace r is outputs
the_trace r is outputs one there =
    let same : one.outputs ≡ outputs = ∥∥₁_elim there (hlevel props) (λ t. sym (one.only outputs t)) in
    subst (HasTrace r is) same one.has

-- a woven program has one trace from each of its configurations
record OneFrom (x : WovenProgram) (y : WovenConfiguration) (is : List SignalSet) : Type 0 where
  outputs : List SignalSet
  configurations : List WovenConfiguration
  follows : Follows (WovenStep x.base x.aspects) y is outputs configurations
  only : (others : List SignalSet) (through : List WovenConfiguration) → Follows (WovenStep x.base x.aspects) y is others through → others ≡ outputs

module _ (x : WovenProgram) (good : IsGood x.base) (fit : AllFit x.aspects (input_count x.base) (output_count x.base)) where
  only_none : (y : WovenConfiguration) (others : List SignalSet) (through : List WovenConfiguration) → Follows (WovenStep x.base x.aspects) y [] others through → others ≡ []
  only_none y [] through f = refl
  only_none y (o ∷ os) through f = absurd f

  only_more : (y : WovenConfiguration) (i : SignalSet) (is : List SignalSet) (h : HasOneWovenStep x.base x.aspects y i) (rest : OneFrom x h.next is) (others : List SignalSet) (through : List WovenConfiguration) → Follows (WovenStep x.base x.aspects) y (i ∷ is) others through
      → others ≡ h.outputs ∷ rest.outputs
  only_more y i is h rest [] through f = absurd f
  only_more y i is h rest (o ∷ os) [] f = absurd f
  only_more y i is h rest (o ∷ os) (z ∷ zs) f =
      let s = h.only o z f.0 in
      ap (λ (a : SignalSet). a ∷ os) s.0 ∙ ap (λ (rs : List SignalSet). h.outputs ∷ rs) (rest.only os zs (subst (λ (c : WovenConfiguration). Follows (WovenStep x.base x.aspects) c is os zs) s.1 f.1))

  one_from : (y : WovenConfiguration) (is : List SignalSet) → IsWovenConfiguration x.base x.aspects y → AreSized (input_count x.base) is → OneFrom x y is
  one_from y [] at sized = record { outputs = []; configurations = []; follows = tt; only = only_none y }
  one_from y (i ∷ is) at sized =
      let h : HasOneWovenStep x.base x.aspects y i = woven_steps_once x.base x.aspects y i good fit at sized.0 in
      let rest : OneFrom x h.next is = one_from h.next is h.stays sized.1 in
      record { outputs = h.outputs ∷ rest.outputs; configurations = h.next ∷ rest.configurations; follows = (h.steps, rest.follows); only = only_more y i is h rest }

  pub one_trace : (is : List SignalSet) → AreSized (input_count x.base) is → HasOne (program x) is
  one_trace is sized =
      let h : OneFrom x (woven_initial x.base x.aspects) is = one_from (woven_initial x.base x.aspects) is (woven_initial_is_one x.base x.aspects good fit) sized in
      record { outputs = h.outputs; has = (h.configurations, h.follows); only = λ others t. h.only others t.0 t.1 }

each_more : (n : ℕ) (i : SignalSet) (is : List SignalSet) → length i ≡ n → All (λ j. length j ≡ n) is → (k : ℕ) (d : SignalSet) → k < length (i ∷ is) → length (slice_index_or (i ∷ is) k d) ≡ n
each_more n i is h rest zero d below = h
each_more n i is h rest (suc k) d below = rest k d (omega arith)

each_all : (n : ℕ) (is : List SignalSet) → AreSized n is → All (λ i. length i ≡ n) is
each_all n [] h = λ k d below. absurd (omega arith)
each_all n (i ∷ is) h = each_more n i is h.0 (each_all n is h.1)

pub one_run : (E : Equations) (n : FileNames) (is : List SignalSet) → IsOrdered E → AreSized E.inputs is → HasOne (equations E n) is
one_run E n is o sized =
    let h = runs_once E is o (each_all E.inputs is sized) in
    record { outputs = h.outputs; has = (h.memories, h.run.runs); only = λ others t. (h.run.only others t.0 t.1).0 }

pub one_step_run : (s : CStep) (is : List SignalSet) → IsCStep s → AreSized (length s.names.inputs) is → HasOne (c_steps s) is
one_step_run s is kept sized =
    let h = c_steps_of.runs_once s is kept (each_all (length s.names.inputs) is sized) in
    record { outputs = h.outputs; has = (h.memories, h.run.runs); only = λ others t. (h.run.only others t.0 t.1).0 }

-- what the files gave has one trace to the sets of an input
pub given_one : (r : Runnable) (is : List SignalSet) → IsGivenRunnable r → AreSized (length (input_names r)) is → HasOne r is
given_one (program x) is g sized = one_trace x g.base.acceptable.good g.fit is sized
given_one (equations E n) is g sized = one_run E n is g.0 (subst (λ k. AreSized k is) g.1.inputs sized)
given_one (c_steps s) is g sized = one_step_run s is g sized

-- the first lines have the first outputs

record Fronts {S : Type 0} (R : S → SignalSet → SignalSet → S → Type 0) (x : S) (is os : List SignalSet) : Type 0 where
  front : List SignalSet
  more : List SignalSet
  states : List S
  joined : os ≡ front ++ more
  follows : Follows R x is front states

fronts : {S : Type 0} (R : S → SignalSet → SignalSet → S → Type 0) (x : S) (is rest os : List SignalSet) (ys : List S) → Follows R x (is ++ rest) os ys → Fronts R x is os
fronts R x [] rest os ys h = record { front = []; more = os; states = []; joined = refl; follows = tt }
fronts R x (i ∷ is) rest [] ys h = absurd h
fronts R x (i ∷ is) rest (o ∷ os) [] h = absurd h
fronts R x (i ∷ is) rest (o ∷ os) (y ∷ ys) h =
    let f = fronts R y is rest os ys h.1 in
    record { front = o ∷ f.front; more = f.more; states = y ∷ f.states; joined = ap (λ (z : List SignalSet). o ∷ z) f.joined; follows = (h.0, f.follows) }

record TraceFront (x : Runnable) (is os : List SignalSet) : Type 0 where
  front : List SignalSet
  more : List SignalSet
  joined : os ≡ front ++ more
  trace : HasTrace x is front

trace_front : (x : Runnable) (is rest os : List SignalSet) → HasTrace x (is ++ rest) os → TraceFront x is os
trace_front (program x) is rest os t = let f = fronts (WovenStep x.base x.aspects) (woven_initial x.base x.aspects) is rest os t.0 t.1 in record { front = f.front; more = f.more; joined = f.joined; trace = (f.states, f.follows) }
trace_front (equations E n) is rest os t = let f = fronts (SystemReacts E) E.initial is rest os t.0 t.1 in record { front = f.front; more = f.more; joined = f.joined; trace = (f.states, f.follows) }
trace_front (c_steps s) is rest os t = let f = fronts (CReacts s) s.initial is rest os t.0 t.1 in record { front = f.front; more = f.more; joined = f.joined; trace = (f.states, f.follows) }

AreSized-front : (n : ℕ) (is rest : List SignalSet) → AreSized n (is ++ rest) → AreSized n is
AreSized-front n [] rest h = tt
AreSized-front n (i ∷ is) rest h = (h.0, AreSized-front n is rest h.1)

goes_on : (x : Runnable) (done rest os : List SignalSet) → HasOne x (done ++ rest) → HasOne x done → HasTrace x done os → (more : List SignalSet) × HasTrace x (done ++ rest) (os ++ more)
goes_on x done rest os all first t =
    let f = trace_front x done rest all.outputs all.has in
    let same : f.front ≡ os = first.only f.front f.trace ∙ sym (first.only os t) in
    (f.more, subst (HasTrace x (done ++ rest)) (f.joined ∙ ap (λ z. z ++ f.more) same) all.has)

goes_on_sized : (x : Runnable) (k : ℕ) → ((is : List SignalSet) → AreSized k is → HasOne x is) → (done rest os : List SignalSet) → AreSized k (done ++ rest) → HasTrace x done os → (more : List SignalSet) × HasTrace x (done ++ rest) (os ++ more)
goes_on_sized x k one done rest os sized t = goes_on x done rest os (one (done ++ rest) sized) (one done (AreSized-front k done rest sized)) t

goes_on_lines : (x : Runnable) (names : List Spelled) → ((is : List SignalSet) → AreSized (length names) is → HasOne x is) → (trace : Reading) (done rest os : List SignalSet) → (lines_left names trace).0 ≡ done ++ rest → HasTrace x done os
    → (more : List SignalSet) × HasTrace x (done ++ rest) (os ++ more)
goes_on_lines x names one trace done rest os split t =
    goes_on_sized x (length names) one done rest os (subst (AreSized (length names)) split (sets-sized names trace.stop trace.number (raws_from trace.stop trace.bytes))) t

-- a stepper at the start runs its equations, and a C step that runs its statements

pub runs_equations : (E : Equations) (n : FileNames) (x : Running) → IsOrdered E → length n.inputs ≡ E.inputs → x ≡ start_of E → IsRunOf StepsTo x n (equations E n)
runs_equations E n x ordered sized start = record {
  inputs = refl;
  outputs = refl;
  passes = λ is os p. (map (λ (y : Running). y.memory) p.0, (steps_are_runs E is os p.0 ordered (subst (λ (y : Running). Follows StepsTo y is os p.0) start p.1)).runs);
  goes_on = goes_on_lines (equations E n) n.inputs (λ is h. one_run E n is ordered (subst (λ (k : ℕ). AreSized k is) sized h));
}

pub runs_step : (s : CStep) (n : FileNames) (x : c_running.Running) → IsCStep s → n ≡ s.names → x ≡ c_running.start_of s → IsRunOf c_running.StepsTo x n (c_steps s)
runs_step s n x kept same start = record {
  inputs = ap (λ (k : FileNames). k.inputs) (sym same);
  outputs = ap (λ (k : FileNames). k.outputs) (sym same);
  passes = λ is os p. (map (λ (y : c_running.Running). y.memory) p.0, (c_steps_of.steps_are_runs s is os p.0 kept (subst (λ (y : c_running.Running). Follows c_running.StepsTo y is os p.0) start p.1)).runs);
  goes_on = goes_on_lines (c_steps s) n.inputs (λ is h. one_step_run s is kept (subst (λ (k : FileNames). AreSized (length k.inputs) is) same h));
}
