-- A step has one reaction and one run.
use Rattle.std.proofs.Common.{◌≡◌, ℕ, suc, ◌-◌, ◌≤◌, List, [], ◌∷◌, ◌++◌, false, length, take, map, refl, sym, ap, ◌∙◌, subst, length-append, arith}
use Rattle.std.specs.Prelude.{All, replicate}
use Rattle.std.proofs.Math.Seq.{take-append_seam}
use Rattle.std.proofs.lemmas.List.{length-replicate, length-take-le}
use Rattle.argos_base.specs.Machines.{ReactsOnce}
use Rattle.argos_base.specs.Runs.{Follows}
use Rattle.argos_base.specs.SignalSets.{SignalSet}
use Rattle.c_step.specs.CStep.{CStep, IsCStep}
use Rattle.c_step.specs.CRuns.{Arrays, all_done, Holds, CReacts, CReactsTo, CRunsThrough}
use Rattle.c_step.specs.Laws.{CStepsReactOnce, CStepsRunOnce, IsOnlyRun, StepsAreRuns}
use Rattle.c_step.specs.Running.{Running, start_of, StepsTo}
use Rattle.c_step.proofs.OnlyRegisters.{steps_react}

-- some arrays with this memory
some_arrays : CStep → List ℕ → Arrays
some_arrays s m = record { words = m ++ replicate (s.words - length m) 0; bits = replicate s.bits false; outs = replicate (length s.names.outputs) false }

some_arrays-hold : (s : CStep) (m : List ℕ) → IsCStep s → length m ≡ length s.initial → Holds s m (some_arrays s m)
unfolding some_arrays
some_arrays-hold s m h memory = record {
  words = length-append m (replicate (s.words - length m) 0) ∙ omega (arith, length-replicate {A = ℕ} (s.words - length m) 0, h.room);
  bits = length-replicate s.bits false;
  outs = length-replicate (length s.names.outputs) false;
  registers = ap (λ (k : ℕ). take k (m ++ replicate (s.words - length m) 0)) (sym memory) ∙ take-append_seam m (replicate (s.words - length m) 0);
}

-- two reactions to one input from one memory are one
same_reaction : (s : CStep) (m : List ℕ) (i o o' : SignalSet) (n n' : List ℕ) → IsCStep s → CReacts s m i o n → CReacts s m i o' n' → (o' ≡ o) × (n' ≡ n)
same_reaction s m i o o' n n' h r r' =
    let holds = some_arrays-hold s m h r.memory in
    (sym (r'.outs (some_arrays s m) holds) ∙ r.outs (some_arrays s m) holds, sym (r'.next (some_arrays s m) holds) ∙ r.next (some_arrays s m) holds)

pub reacts_once : CStepsReactOnce
reacts_once s h = λ m i a b.
    let end : Arrays = all_done i s.statements (some_arrays s m) in
    let to : CReactsTo s m i end = steps_react s m i (some_arrays s m) h b (some_arrays-hold s m h a) in
    record {
      reaction = record { outputs = end.outs; next = take (length s.initial) end.words };
      reacts = to.reacts;
      only = λ o n other. same_reaction s m i _ o _ n h to.reacts other;
    }

-- two runs from one memory on one list of inputs are one
same_run : (s : CStep) (m : List ℕ) (inputs outputs others : List SignalSet) (memories through : List (List ℕ)) → IsCStep s → Follows (CReacts s) m inputs outputs memories → Follows (CReacts s) m inputs others through
    → (others ≡ outputs) × (through ≡ memories)
same_run s m [] [] [] [] [] h r r' = (refl, refl)
same_run s m [] [] (o' ∷ others) memories through h r r' = absurd r'
same_run s m [] [] [] [] (n' ∷ through) h r r' = absurd r'
same_run s m [] [] [] (n ∷ memories) through h r r' = absurd r
same_run s m [] (o ∷ outputs) others memories through h r r' = absurd r
same_run s m (i ∷ inputs) [] others memories through h r r' = absurd r
same_run s m (i ∷ inputs) (o ∷ outputs) others [] through h r r' = absurd r
same_run s m (i ∷ inputs) (o ∷ outputs) [] (n ∷ memories) through h r r' = absurd r'
same_run s m (i ∷ inputs) (o ∷ outputs) (o' ∷ others) (n ∷ memories) [] h r r' = absurd r'
same_run s m (i ∷ inputs) (o ∷ outputs) (o' ∷ others) (n ∷ memories) (n' ∷ through) h r r' =
    let now = same_reaction s m i o o' n n' h r.0 r'.0 in
    let later : Follows (CReacts s) n inputs others through = subst (λ (k : List ℕ). Follows (CReacts s) k inputs others through) now.1 r'.1 in
    let rest = same_run s n inputs outputs others memories through h r.1 later in
    (ap (λ (x : SignalSet). x ∷ others) now.0 ∙ ap (λ (xs : List SignalSet). o ∷ xs) rest.0, ap (λ (x : List ℕ). x ∷ through) now.1 ∙ ap (λ (xs : List (List ℕ)). n ∷ xs) rest.1)

record RunFrom (s : CStep) (m : List ℕ) (inputs : List SignalSet) : Type 0 where
  outputs : List SignalSet
  memories : List (List ℕ)
  runs : Follows (CReacts s) m inputs outputs memories

next_sized : (s : CStep) (m : List ℕ) (i o : SignalSet) (n : List ℕ) → IsCStep s → CReacts s m i o n → length n ≡ length s.initial
next_sized s m i o n h r =
    let holds = some_arrays-hold s m h r.memory in
    let to : CReactsTo s m i (all_done i s.statements (some_arrays s m)) = steps_react s m i (some_arrays s m) h r.input holds in
    let end : List ℕ = (all_done i s.statements (some_arrays s m)).words in
    ap length (sym (r.next (some_arrays s m) holds)) ∙ short end (length s.initial) (omega (arith, to.holds.words, h.room))
  where
    short : (xs : List ℕ) (k : ℕ) → k ≤ length xs → length (take k xs) ≡ k
    short xs k l = length-take-le k xs l

run_from : (s : CStep) (m : List ℕ) (inputs : List SignalSet) → IsCStep s → length m ≡ length s.initial → All (λ i. length i ≡ length s.names.inputs) inputs → RunFrom s m inputs
run_from s m [] h a fit = record { outputs = []; memories = []; runs = tt }
run_from s m (i ∷ inputs) h a fit =
    let one : ReactsOnce (CReacts s) m i = reacts_once s h m i a (fit 0 [] (omega arith)) in
    let n : List ℕ = one.reaction.next in
    let rest : RunFrom s n inputs = run_from s n inputs h (next_sized s m i _ n h one.reacts) (λ k d below. fit (suc k) d (omega arith)) in
    record { outputs = one.reaction.outputs ∷ rest.outputs; memories = n ∷ rest.memories; runs = (one.reacts, rest.runs) }

only_run : (s : CStep) (inputs outputs : List SignalSet) (memories : List (List ℕ)) → IsCStep s → CRunsThrough s inputs outputs memories → IsOnlyRun s inputs outputs memories
only_run s inputs outputs memories h r = record { runs = r; only = λ others through r'. same_run s s.initial inputs outputs others memories through h r r' }

pub runs_once : CStepsRunOnce
runs_once s inputs h fit =
    let run : RunFrom s s.initial inputs = run_from s s.initial inputs h refl fit in
    record { outputs = run.outputs; memories = run.memories; run = only_run s inputs run.outputs run.memories h run.runs }

-- the steps that are run are reactions of the step
steps_follow : (s : CStep) (x : Running) (inputs outputs : List SignalSet) (states : List Running) → x.step ≡ s → Follows StepsTo x inputs outputs states → Follows (CReacts s) x.memory inputs outputs (map (λ (y : Running). y.memory) states)
steps_follow s x [] [] [] e h = tt
steps_follow s x [] [] (y ∷ states) e h = absurd h
steps_follow s x [] (o ∷ outputs) states e h = absurd h
steps_follow s x (i ∷ inputs) [] states e h = absurd h
steps_follow s x (i ∷ inputs) (o ∷ outputs) [] e h = absurd h
steps_follow s x (i ∷ inputs) (o ∷ outputs) (y ∷ states) e h =
    (subst (λ (t : CStep). CReacts t x.memory i o y.memory) e h.0.reacts, steps_follow s y inputs outputs states (h.0.same ∙ e) h.1)

pub steps_are_runs : StepsAreRuns
steps_are_runs s inputs outputs states h steps = only_run s inputs outputs _ h (steps_follow s (start_of s) inputs outputs states refl steps)
