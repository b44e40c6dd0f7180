-- An ordered system has one solution, one reaction and one run.
use Rattle.std.proofs.Common.{◌≡◌, ℕ, suc, List, [], ◌∷◌, ◌++◌, IsTrue, length, map, refl, sym, ap, ◌∙◌, subst, arith}
use Rattle.std.specs.Prelude.{All}
use Rattle.std.proofs.lemmas.List.{length-map}
use Rattle.argos_base.specs.Machines.{ReactsOnce}
use Rattle.argos_base.specs.Runs.{Follows}
use Rattle.argos_base.specs.SignalSets.{SignalSet}
use Rattle.eqn_core.specs.Equations.{Equations, registers}
use Rattle.eqn_core.specs.Laws.{SolvesOnce, IsOnlyRun, OrderedSolvesOnce, OrderedReactsOnce, OrderedRunsOnce, StepsAreRuns, RunsBegin, RunsGoOn}
use Rattle.eqn_core.specs.inner.LineValues.{known}
use Rattle.eqn_core.specs.Ordered.{IsOrdered}
use Rattle.eqn_core.specs.inner.OrderTest.{lines_in_order}
use Rattle.eqn_core.specs.Running.{Running, start_of, StepsTo}
use Rattle.eqn_core.specs.Solutions.{Values, bit_of, word_of, Solves, SystemReacts, RunsThrough, last_state}
use Rattle.eqn_core.proofs.Evaluation.{evaluated, evaluated-completes, completes-is_evaluated}
use Rattle.eqn_core.proofs.InOrder.{IsOrdered-walk}

-- the lines are in order behind a memory and an input
order_at : (E : Equations) (m : List ℕ) (i : SignalSet) → IsOrdered E → length m ≡ registers E → length i ≡ E.inputs → IsTrue (lines_in_order (length i) (length m) E.lines)
order_at E m i h a b =
    subst (λ (k : ℕ). IsTrue (lines_in_order k (length m) E.lines)) (sym b) (subst (λ (k : ℕ). IsTrue (lines_in_order E.inputs k E.lines)) (sym a) (IsOrdered-walk E h))

-- each solution is what the lines give one after another
solution_is : (E : Equations) (m : List ℕ) (i : SignalSet) (s : Values) → IsOrdered E → Solves E m i s → s ≡ evaluated E.lines (known i m)
solution_is E m i s h solves = completes-is_evaluated E.lines (known i m) s (order_at E m i h solves.memory solves.input) solves.lines

pub solves_once : OrderedSolvesOnce
solves_once E m i h a b = record {
  values = evaluated E.lines (known i m);
  solves = record { input = b; memory = a; lines = evaluated-completes E.lines (known i m) (order_at E m i h a b) };
  only = λ s solves. solution_is E m i s h solves;
}

-- two reactions to one input from one memory are one
same_reaction : (E : Equations) (m : List ℕ) (i o o' : SignalSet) (n n' : List ℕ) → IsOrdered E → SystemReacts E m i o n → SystemReacts E m i o' n' → (o' ≡ o) × (n' ≡ n)
same_reaction E m i o o' n n' h r r' =
    let one : r'.values ≡ r.values = solution_is E m i r'.values h r'.solves ∙ sym (solution_is E m i r.values h r.solves) in
    (r'.outputs ∙ ap (λ (s : Values). map (bit_of s) E.outputs) one ∙ sym r.outputs, r'.next ∙ ap (λ (s : Values). map (word_of s) E.next) one ∙ sym r.next)

pub reacts_once : OrderedReactsOnce
reacts_once E h = λ m i a b.
    let one : SolvesOnce E m i = solves_once E m i h a b in
    let r : SystemReacts E m i (map (bit_of one.values) E.outputs) (map (word_of one.values) E.next) = record { values = one.values; solves = one.solves; outputs = refl; next = refl } in
    record {
      reaction = record { outputs = map (bit_of one.values) E.outputs; next = map (word_of one.values) E.next };
      reacts = r;
      only = λ o n other. same_reaction E m i _ o _ n h r other;
    }

-- two runs from one memory on one list of inputs are one
same_run : (E : Equations) (m : List ℕ) (inputs outputs others : List SignalSet) (memories through : List (List ℕ)) → IsOrdered E → Follows (SystemReacts E) m inputs outputs memories → Follows (SystemReacts E) m inputs others through
    → (others ≡ outputs) × (through ≡ memories)
same_run E m [] [] [] [] [] h r r' = (refl, refl)
same_run E m [] [] (o' ∷ others) memories through h r r' = absurd r'
same_run E m [] [] [] [] (n' ∷ through) h r r' = absurd r'
same_run E m [] [] [] (n ∷ memories) through h r r' = absurd r
same_run E m [] (o ∷ outputs) others memories through h r r' = absurd r
same_run E m (i ∷ inputs) [] others memories through h r r' = absurd r
same_run E m (i ∷ inputs) (o ∷ outputs) others [] through h r r' = absurd r
same_run E m (i ∷ inputs) (o ∷ outputs) [] (n ∷ memories) through h r r' = absurd r'
same_run E m (i ∷ inputs) (o ∷ outputs) (o' ∷ others) (n ∷ memories) [] h r r' = absurd r'
same_run E m (i ∷ inputs) (o ∷ outputs) (o' ∷ others) (n ∷ memories) (n' ∷ through) h r r' =
    let now = same_reaction E m i o o' n n' h r.0 r'.0 in
    let later : Follows (SystemReacts E) n inputs others through = subst (λ (k : List ℕ). Follows (SystemReacts E) k inputs others through) now.1 r'.1 in
    let rest = same_run E n inputs outputs others memories through h r.1 later in
    (ap (λ (x : SignalSet). x ∷ others) now.0 ∙ ap (λ (xs : List SignalSet). o ∷ xs) rest.0, ap (λ (x : List ℕ). x ∷ through) now.1 ∙ ap (λ (xs : List (List ℕ)). n ∷ xs) rest.1)

-- the next memory has a place for each register
next_sized : (E : Equations) (m : List ℕ) (i o : SignalSet) (n : List ℕ) → IsOrdered E → SystemReacts E m i o n → length n ≡ registers E
next_sized E m i o n h r = ap length r.next ∙ length-map E.next (word_of r.values) ∙ h.next_sized

record RunFrom (E : Equations) (m : List ℕ) (inputs : List SignalSet) : Type 0 where
  outputs : List SignalSet
  memories : List (List ℕ)
  runs : Follows (SystemReacts E) m inputs outputs memories

run_from : (E : Equations) (m : List ℕ) (inputs : List SignalSet) → IsOrdered E → length m ≡ registers E → All (λ i. length i ≡ E.inputs) inputs → RunFrom E m inputs
run_from E m [] h a fit = record { outputs = []; memories = []; runs = tt }
run_from E m (i ∷ inputs) h a fit =
    let one : ReactsOnce (SystemReacts E) m i = reacts_once E h m i a (fit 0 [] (omega arith)) in
    let n : List ℕ = one.reaction.next in
    let rest : RunFrom E n inputs = run_from E n inputs h (next_sized E m i _ n h one.reacts) (λ k d below. fit (suc k) d (omega arith)) in
    record { outputs = one.reaction.outputs ∷ rest.outputs; memories = n ∷ rest.memories; runs = (one.reacts, rest.runs) }

only_run : (E : Equations) (inputs outputs : List SignalSet) (memories : List (List ℕ)) → IsOrdered E → RunsThrough E inputs outputs memories → IsOnlyRun E inputs outputs memories
only_run E inputs outputs memories h r = record { runs = r; only = λ others through r'. same_run E E.initial inputs outputs others memories through h r r' }

pub runs_once : OrderedRunsOnce
runs_once E inputs h fit =
    let run : RunFrom E E.initial inputs = run_from E E.initial inputs h refl fit in
    record { outputs = run.outputs; memories = run.memories; run = only_run E inputs run.outputs run.memories h run.runs }

-- steps of a stepper are reactions of its system
steps_follow : (E : Equations) (x : Running) (inputs outputs : List SignalSet) (states : List Running) → x.equations ≡ E → Follows StepsTo x inputs outputs states → Follows (SystemReacts E) x.memory inputs outputs (map (λ (y : Running). y.memory) states)
steps_follow E x [] [] [] e h = tt
steps_follow E x [] [] (y ∷ states) e h = absurd h
steps_follow E x [] (o ∷ outputs) states e h = absurd h
steps_follow E x (i ∷ inputs) [] states e h = absurd h
steps_follow E x (i ∷ inputs) (o ∷ outputs) [] e h = absurd h
steps_follow E x (i ∷ inputs) (o ∷ outputs) (y ∷ states) e h =
    (subst (λ (F : Equations). SystemReacts F x.memory i o y.memory) e h.0.reacts, steps_follow E y inputs outputs states (h.0.same ∙ e) h.1)

pub steps_are_runs : StepsAreRuns
steps_are_runs E inputs outputs states h steps = only_run E inputs outputs _ h (steps_follow E (start_of E) inputs outputs states refl steps)

-- one more step behind those that lead from x
pub Follows-push : {S : Type 0} (R : S → SignalSet → SignalSet → S → Type 0) (x : S) (inputs outputs : List SignalSet) (states : List S) (i o : SignalSet) (y : S) → Follows R x inputs outputs states → R (last_state x states) i o y
    → Follows R x (inputs ++ i ∷ []) (outputs ++ o ∷ []) (states ++ y ∷ [])
Follows-push R x [] [] [] i o y h r = (r, tt)
Follows-push R x [] [] (z ∷ states) i o y h r = absurd h
Follows-push R x [] (p ∷ outputs) states i o y h r = absurd h
Follows-push R x (j ∷ inputs) [] states i o y h r = absurd h
Follows-push R x (j ∷ inputs) (p ∷ outputs) [] i o y h r = absurd h
Follows-push R x (j ∷ inputs) (p ∷ outputs) (z ∷ states) i o y h r = (h.0, Follows-push R z inputs outputs states i o y h.1 r)

last_state-push : {S : Type 0} (x : S) (states : List S) (y : S) → last_state x (states ++ y ∷ []) ≡ y
last_state-push x [] y = refl
last_state-push x (z ∷ states) y = last_state-push z states y

pub runs_begin : RunsBegin
runs_begin E = record { memories = []; runs = tt; reaches = refl }

pub runs_go_on : RunsGoOn
runs_go_on E inputs outputs m i o n h r =
    let here : SystemReacts E (last_state E.initial h.memories) i o n = subst (λ (k : List ℕ). SystemReacts E k i o n) (sym h.reaches) r in
    record {
      memories = h.memories ++ n ∷ [];
      runs = Follows-push (SystemReacts E) E.initial inputs outputs h.memories i o n h.runs here;
      reaches = last_state-push E.initial h.memories n;
    }
