-- What a step emits has one truth value per signal, so outputs have one per output.
use Rattle.std.proofs.Common.{◌≡◌, ℕ, zero, suc, ◌-◌, Bool, length, drop, ap, ◌∙◌, inl, inr, arith, length-drop}
use Rattle.std.proofs.lemmas.List.{length-take-le}
use Rattle.argos_base.specs.SignalSets.{SignalSet, set_where}
use Rattle.argos_base.proofs.SetLemmas.{length-set_where}
use Rattle.argos_core.specs.Process.{Rules, Process, automaton, parallel, local, freeze, Processes, no_processes, process, States, no_states, state, Body}
use Rattle.argos_core.specs.Process.{no_body, body, Configuration, at, beside, Inner, no_inner, inner, Configurations, no_configurations, configuration, PlainModule}
use Rattle.argos_core.specs.Reactions.{input_count, output_count, signal_count, valuation, Reacts}
use Rattle.argos_core.specs.Step.{Step, PartsStep, StateSteps, BodySteps, Moves, transition, timeout, count, hold}

abbrev Set : ℕ → SignalSet → Type 0
Set n o = length o ≡ n

where_sized : (n : ℕ) (test : ℕ → Bool) (o : SignalSet) → o ≡ set_where n test → Set n o
where_sized n test o e = ap length e ∙ length-set_where n test

moves_sized : (n : ℕ) (s : Rules) (enter : ℕ → Configuration) (q e : ℕ) (BodyMoves : SignalSet → Inner → Type 0) (v o : SignalSet) (c' : Configuration)
    → ((ob : SignalSet) (b' : Inner) → BodyMoves ob b' → Set n ob) → Moves n s enter q e BodyMoves v o c' → Set n o
moves_sized n s enter q e BodyMoves v o c' h (transition k t ob b' g x y oe ce) = where_sized n _ o oe
moves_sized n s enter q e BodyMoves v o c' h (timeout w ob b' a b d f y oe ce) = where_sized n _ o oe
moves_sized n s enter q e BodyMoves v o c' h (count w b' a b d f y ce) = h o b' y
moves_sized n s enter q e BodyMoves v o c' h (hold b' a b y ce) = h o b' y

mutual
  pub step_sized : (n : ℕ) (p : Process) (c : Configuration) (v o : SignalSet) (c' : Configuration) → Step n p c v o c' → Set n o
  step_sized n (automaton ss q0) (at q e b) v o c' x = state_sized n ss q _ q e b v o c' x
  step_sized n (automaton ss q0) (beside cs) v o c' x = absurd x
  step_sized n (parallel ps) (at q e b) v o c' x = absurd x
  step_sized n (parallel ps) (beside cs) v o c' (cs', ce, x) = parts_sized n ps cs v o cs' x
  step_sized n (local list p) c v o c' (emitted, x, oe) = where_sized n _ o oe
  step_sized n (freeze a p) c v o c' (inl x) = where_sized n _ o x.1
  step_sized n (freeze a p) c v o c' (inr x) = step_sized n p c v o c' x.1

  parts_sized : (n : ℕ) (ps : Processes) (cs : Configurations) (v o : SignalSet) (cs' : Configurations) → PartsStep n ps cs v o cs' → Set n o
  parts_sized n no_processes no_configurations v o cs' x = where_sized n _ o x.0
  parts_sized n no_processes (configuration c cs) v o cs' x = absurd x
  parts_sized n (process p ps) no_configurations v o cs' x = absurd x
  parts_sized n (process p ps) (configuration c cs) v o cs' (o1, o2, d, ds, x, xs, oe, ce) = where_sized n _ o oe

  state_sized : (n : ℕ) (ss : States) (k : ℕ) (enter : ℕ → Configuration) (q e : ℕ) (b : Inner) (v o : SignalSet) (c' : Configuration)
      → StateSteps n ss k enter q e b v o c' → Set n o
  state_sized n no_states k enter q e b v o c' x = absurd x
  state_sized n (state s p ss) zero enter q e b v o c' x = moves_sized n s enter q e (BodySteps n p b v) v o c' (λ ob b' y. body_sized n p b v ob b' y) x
  state_sized n (state s p ss) (suc k) enter q e b v o c' x = state_sized n ss k enter q e b v o c' x

  body_sized : (n : ℕ) (p : Body) (b : Inner) (v o : SignalSet) (b' : Inner) → BodySteps n p b v o b' → Set n o
  body_sized n no_body no_inner v o b' x = where_sized n _ o x.0
  body_sized n no_body (inner c) v o b' x = absurd x
  body_sized n (body p) no_inner v o b' x = absurd x
  body_sized n (body p) (inner c) v o b' (c', ce, x) = step_sized n p c v o c' x

pub outputs_sized : (P : PlainModule) (c : Configuration) (i o : SignalSet) (c' : Configuration) → Reacts P c i o c' → length o ≡ output_count P
outputs_sized P c i o c' r =
    let whole : length r.emitted ≡ signal_count P = step_sized (signal_count P) P.process c (valuation P i) r.emitted c' r.step in
    let rest : length (drop (input_count P) r.emitted) ≡ length r.emitted - input_count P = length-drop (input_count P) r.emitted in
    ap length r.outputs ∙ length-take-le (output_count P) (drop (input_count P) r.emitted) (omega arith)
