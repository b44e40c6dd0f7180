-- Which locals are present where a module reacts. Source: this project; the steps are those of argos_core.
use Rattle.std.specs.Prelude.{◌≡◌, ℕ, zero, suc, List, true, false, ◌⊎◌, ◌&&◌, length}
use Rattle.argos_base.specs.SignalSets.{SignalSet, has, lists, set_where, empty, union, without, override}
use Rattle.argos_core.specs.Configurations.{entered}
use Rattle.argos_core.specs.Process.{Process, automaton, parallel, local, freeze, Processes, no_processes, process, States, no_states, state, Body, no_body, body, Configuration, at, beside, Inner, no_inner, inner, Configurations, no_configurations, configuration, PlainModule}
use Rattle.argos_core.specs.Reactions.{input_count, signal_count, valuation, outputs_among}
use Rattle.argos_core.specs.Step.{Moves}

-- the signals of the list that are in the set
abbrev pub among : ℕ → List ℕ → SignalSet → SignalSet
among n list a = set_where n (λ k. has a k && lists list k)

-- A step as in argos_core, and l are the present locals of the process: those that are emitted under their `local`. The locals of what is frozen, and of the bodies of states that aren't current, are absent.
abbrev mutual
  pub StepWith : ℕ → Process → Configuration → SignalSet → SignalSet → SignalSet → Configuration → Type 0
  StepWith n (automaton ss q0) (at q e b) v l o c' = StateStepsWith n ss q (entered ss) q e b v l o c'
  StepWith n (automaton ss q0) (beside cs) v l o c' = ⊥
  StepWith n (parallel ps) (at q e b) v l o c' = ⊥
  StepWith n (parallel ps) (beside cs) v l o c' = (cs' : Configurations) × (c' ≡ beside cs') × PartsStepWith n ps cs v l o cs'
  StepWith n (local list p) c v l o c' = (emitted inside : SignalSet) × StepWith n p c (override n list v emitted) inside emitted c' × (o ≡ without n list emitted) × (l ≡ union n (among n list emitted) inside)
  StepWith n (freeze s p) c v l o c' = ((has v s ≡ true) × (o ≡ empty n) × (c' ≡ c) × (l ≡ empty n)) ⊎ ((has v s ≡ false) × StepWith n p c v l o c')

  pub PartsStepWith : ℕ → Processes → Configurations → SignalSet → SignalSet → SignalSet → Configurations → Type 0
  PartsStepWith n no_processes no_configurations v l o cs' = (o ≡ empty n) × (cs' ≡ no_configurations) × (l ≡ empty n)
  PartsStepWith n no_processes (configuration c cs) v l o cs' = ⊥
  PartsStepWith n (process p ps) no_configurations v l o cs' = ⊥
  PartsStepWith n (process p ps) (configuration c cs) v l o cs' = (l1 l2 o1 o2 : SignalSet) × (d : Configuration) × (ds : Configurations) × StepWith n p c v l1 o1 d × PartsStepWith n ps cs v l2 o2 ds × (o ≡ union n o1 o2) × (cs' ≡ configuration d ds) × (l ≡ union n l1 l2)

  pub StateStepsWith : ℕ → States → ℕ → (ℕ → Configuration) → ℕ → ℕ → Inner → SignalSet → SignalSet → SignalSet → Configuration → Type 0
  StateStepsWith n no_states k enter q e b v l o c' = ⊥
  StateStepsWith n (state s p ss) zero enter q e b v l o c' = Moves n s enter q e (BodyStepsWith n p b v l) v o c'
  StateStepsWith n (state s p ss) (suc k) enter q e b v l o c' = StateStepsWith n ss k enter q e b v l o c'

  pub BodyStepsWith : ℕ → Body → Inner → SignalSet → SignalSet → SignalSet → Inner → Type 0
  BodyStepsWith n no_body no_inner v l o b' = (o ≡ empty n) × (b' ≡ no_inner) × (l ≡ empty n)
  BodyStepsWith n no_body (inner c) v l o b' = ⊥
  BodyStepsWith n (body p) no_inner v l o b' = ⊥
  BodyStepsWith n (body p) (inner c) v l o b' = (c' : Configuration) × (b' ≡ inner c') × StepWith n p c v l o c'

-- to the input set i the module in configuration c can react as in argos_core, with the locals l present
pub record ReactsWith (P : PlainModule) (c : Configuration) (i l o : SignalSet) (c' : Configuration) : Type 0 where
  pub input : length i ≡ input_count P
  pub emitted : SignalSet
  pub step : StepWith (signal_count P) P.process c (valuation P i) l emitted c'
  pub outputs : o ≡ outputs_among P emitted

-- l, as a set of all signals, are the locals that are present in some reaction to i in c
abbrev pub Settles : PlainModule → Configuration → SignalSet → SignalSet → Type 0
Settles P c i l = (o : SignalSet) × ((c' : Configuration) × ReactsWith P c i l o c')
