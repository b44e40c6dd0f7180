-- A step emits a set of all signals, so reactions have outputs of one size.
use Rattle.std.proofs.Common.{◌≡◌, ℕ, zero, suc, List, Bool, length, take, drop, sym, ap, ◌∙◌, inl, inr, arith}
use Rattle.std.proofs.lemmas.List.{length-take-le, length-drop}
use Rattle.argos_base.specs.SignalSets.{SignalSet, set_where}
use Rattle.argos_base.proofs.SetLemmas.{length-set_where}
use Rattle.argos_core.specs.Automata.{register_count}
use Rattle.argos_core.specs.Configurations.{entered}
use Rattle.argos_core.specs.Codes.{IsStructural}
use Rattle.argos_core.specs.FirstBad.{ReactsCoded}
use Rattle.argos_core.specs.Modules.{IsShaped}
use Rattle.argos_core.specs.Process.{Rules, Process, automaton, parallel, local, freeze, Processes, no_processes, process, States, no_states, state}
use Rattle.argos_core.specs.Process.{Body, no_body, body, Inner, no_inner, inner, PlainModule}
use Rattle.argos_core.specs.Process.{Configuration, at, beside, Configurations, no_configurations, configuration}
use Rattle.argos_core.specs.Reactions.{input_count, output_count, signal_count, valuation}
use Rattle.argos_core.specs.Step.{Step, PartsStep, StateSteps, BodySteps, Moves, transition, timeout, count, hold}
use Rattle.argos_core.proofs.CodesDiffer.{length-code_of}
use Rattle.argos_core.proofs.StepsStay.{step_stays}

where_sized : (n : ℕ) (test : ℕ → Bool) (o : SignalSet) → o ≡ set_where n test → length o ≡ n
where_sized n test o is = ap length is ∙ length-set_where n test

moves_sized : (n : ℕ) (r : Rules) (enter : ℕ → Configuration) (q e : ℕ) (BodyMoves : SignalSet → Inner → Type 0) (v o : SignalSet) (c' : Configuration)
    → ((ob : SignalSet) (b' : Inner) → BodyMoves ob b' → length ob ≡ n) → Moves n r enter q e BodyMoves v o c' → length o ≡ n
moves_sized n r enter q e BodyMoves v o c' sized (transition k t ob b' g h x oe ce) = where_sized n _ o oe
moves_sized n r enter q e BodyMoves v o c' sized (timeout t ob b' none is sig last x oe ce) = where_sized n _ o oe
moves_sized n r enter q e BodyMoves v o c' sized (count t b' none is sig more x ce) = sized o b' x
moves_sized n r enter q e BodyMoves v o c' sized (hold b' none quiet x ce) = sized o b' x

mutual
  step_sized : (p : Process) (n : ℕ) (c : Configuration) (v o : SignalSet) (c' : Configuration) → Step n p c v o c' → length o ≡ n
  step_sized (automaton ss q0) n (at q e b) v o c' x = state_sized ss n q (entered ss) q e b v o c' x
  step_sized (automaton ss q0) n (beside cs) v o c' x = absurd x
  step_sized (parallel ps) n (at q e b) v o c' x = absurd x
  step_sized (parallel ps) n (beside cs) v o c' (cs', ce, x) = parts_sized ps n cs v o cs' x
  step_sized (local list p) n c v o c' (emitted, x, oe) = where_sized n _ o oe
  step_sized (freeze a p) n c v o c' (inl x) = where_sized n _ o x.1
  step_sized (freeze a p) n c v o c' (inr x) = step_sized p n c v o c' x.1

  parts_sized : (ps : Processes) (n : ℕ) (cs : Configurations) (v o : SignalSet) (cs' : Configurations) → PartsStep n ps cs v o cs' → length o ≡ n
  parts_sized no_processes n no_configurations v o cs' x = where_sized n _ o x.0
  parts_sized no_processes n (configuration c cs) v o cs' x = absurd x
  parts_sized (process p ps) n no_configurations v o cs' x = absurd x
  parts_sized (process p ps) n (configuration c cs) v o cs' (o1, o2, d, ds, x, xs, oe, ce) = where_sized n _ o oe

  state_sized : (ss : States) (n k : ℕ) (enter : ℕ → Configuration) (q e : ℕ) (b : Inner) (v o : SignalSet) (c' : Configuration)
      → StateSteps n ss k enter q e b v o c' → length o ≡ n
  state_sized no_states n k enter q e b v o c' x = absurd x
  state_sized (state r p ss) n zero enter q e b v o c' x = moves_sized n r enter q e (BodySteps n p b v) v o c' (λ ob b' y. body_sized p n b v ob b' y) x
  state_sized (state r p ss) n (suc k) enter q e b v o c' x = state_sized ss n k enter q e b v o c' x

  body_sized : (p : Body) (n : ℕ) (b : Inner) (v o : SignalSet) (b' : Inner) → BodySteps n p b v o b' → length o ≡ n
  body_sized no_body n no_inner v o b' x = where_sized n _ o x.0
  body_sized no_body n (inner c) v o b' x = absurd x
  body_sized (body p) n no_inner v o b' x = absurd x
  body_sized (body p) n (inner c) v o b' (c', ce, x) = step_sized p n c v o c' x

-- a memory has one code for each register
pub memory_sized : (P : PlainModule) (m : List ℕ) → IsStructural P.process m → length m ≡ register_count P.process
memory_sized P m is = ap length (sym is.code) ∙ length-code_of P.process is.configuration is.is

-- outputs and next memory of a reaction have one size each
pub reaction_sized : (P : PlainModule) (m : List ℕ) (i o : SignalSet) (m' : List ℕ) → IsShaped P.process → ReactsCoded P m i o m'
    → (length o ≡ output_count P) × (length m' ≡ register_count P.process)
reaction_sized P m i o m' shaped r =
    let x = r.reacts in
    let n = signal_count P in
    let emitted : length x.emitted ≡ n = step_sized P.process n r.configuration (valuation P i) x.emitted r.next x.step in
    let rest = length-drop (input_count P) x.emitted in
    let behind = drop (input_count P) x.emitted in
    let taken : length (take (output_count P) behind) ≡ output_count P = length-take-le (output_count P) behind (omega (arith, rest, emitted)) in
    let next = step_stays P.process n r.configuration (valuation P i) x.emitted r.next shaped r.is x.step in
    (ap length x.outputs ∙ taken, ap length (sym r.to) ∙ length-code_of P.process r.next next)
