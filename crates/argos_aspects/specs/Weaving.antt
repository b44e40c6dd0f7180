-- The woven program: base and observers move together, and at a join point the advice replaces the reaction. After Larissa; the exact rules: this project. A list of aspects has the last one first.
use Rattle.std.specs.Prelude.{◌≡◌, ℕ, ◌+◌, ◌*◌, List, [], ◌∷◌, ◌++◌, Bool, true, false, ◌⊎◌, map, length}
use Rattle.argos_base.specs.Runs.{Follows}
use Rattle.argos_base.specs.SignalSets.{SignalSet, has}
use Rattle.argos_core.specs.Automata.{register_count}
use Rattle.argos_core.specs.Codes.{code_of}
use Rattle.argos_core.specs.Configurations.{IsConfiguration}
use Rattle.argos_core.specs.Process.{Configuration, PlainModule}
use Rattle.argos_core.specs.Reactions.{output_count, initial_of, Reacts}
use Rattle.argos_aspects.specs.Aspects.{Aspect, Seen, input, output, Onset, to_initial, to_current}

-- a base configuration, and around it one observer configuration per aspect
pub data WovenConfiguration : Type 0 where
  alone : Configuration → WovenConfiguration
  watched : WovenConfiguration → Configuration → WovenConfiguration

-- a base and an observer, which move together
pub record Pair : Type 0 where
  pub base : WovenConfiguration
  pub observer : Configuration

abbrev pub pair : WovenConfiguration → Configuration → Pair
pair w j = record { base = w; observer = j }

-- each part is in its initial configuration
abbrev pub woven_initial : PlainModule → List Aspect → WovenConfiguration
woven_initial P [] = alone (initial_of P)
woven_initial P (A ∷ before) = watched (woven_initial P before) (initial_of A.observer)

-- each part is in one of its configurations
abbrev pub IsWovenConfiguration : PlainModule → List Aspect → WovenConfiguration → Type 0
IsWovenConfiguration P [] (alone c) = IsConfiguration P.process c
IsWovenConfiguration P [] (watched w j) = ⊥
IsWovenConfiguration P (A ∷ before) (alone c) = ⊥
IsWovenConfiguration P (A ∷ before) (watched w j) = IsWovenConfiguration P before w × IsConfiguration A.observer.process j

-- the base's code, and then the observers' codes in the order of the aspects
abbrev pub woven_code : PlainModule → List Aspect → WovenConfiguration → List ℕ
woven_code P [] (alone c) = code_of P.process c
woven_code P [] (watched w j) = []
woven_code P (A ∷ before) (alone c) = []
woven_code P (A ∷ before) (watched w j) = woven_code P before w ++ code_of A.observer.process j

-- whether the signal is among the inputs v and outputs o
abbrev pub sees : SignalSet → SignalSet → Seen → Bool
sees v o (input k) = has v k
sees v o (output k) = has o k

-- the input set of an observer that sees these
abbrev pub observed : List Seen → SignalSet → SignalSet → SignalSet
observed seen v o = map (sees v o) seen

-- The base, which reacts by BaseReacts, and the observer move together on v from x to y; the base emits o, and join_point says whether the observer emits its output.
pub record Watch (A : Aspect) (BaseReacts : WovenConfiguration → SignalSet → SignalSet → WovenConfiguration → Type 0) (x : Pair) (v o : SignalSet) (y : Pair) (join_point : Bool) : Type 0 where
  pub base_reacts : BaseReacts x.base v o y.base
  pub emitted : SignalSet
  pub observer_reacts : Reacts A.observer x.observer (observed A.seen v o) emitted y.observer
  pub join : join_point ≡ has emitted 0

-- y is reached from x by moving together along the trace, join points ignored
abbrev pub Reach : Aspect → (WovenConfiguration → SignalSet → SignalSet → WovenConfiguration → Type 0) → Pair → List SignalSet → Pair → Type 0
Reach A BaseReacts x [] y = y ≡ x
Reach A BaseReacts x (v ∷ trace) y = (z : Pair) × (o : SignalSet) × (join_point : Bool) × Watch A BaseReacts x v o z join_point × Reach A BaseReacts z trace y

-- where the advice's trace starts: at the initial pair, or at the pair before this instant
abbrev pub start_of : Onset → Pair → Pair → Pair
start_of to_initial initial current = initial
start_of to_current initial current = current

-- An instant with a join point: the outputs are the advice's, and the next pair is the one reached along its trace.
pub record Advised (A : Aspect) (BaseReacts : WovenConfiguration → SignalSet → SignalSet → WovenConfiguration → Type 0) (initial x : Pair) (v o : SignalSet) (y : Pair) : Type 0 where
  pub base_outputs : SignalSet
  pub left : Pair
  pub watch : Watch A BaseReacts x v base_outputs left true
  pub outputs : o ≡ A.advice.outs
  pub reach : Reach A BaseReacts (start_of A.advice.onset initial x) A.advice.trace y

-- A step of the woven program: where the observer doesn't emit the join point, the two move together; else the advice rules.
abbrev pub WovenStep : PlainModule → List Aspect → WovenConfiguration → SignalSet → SignalSet → WovenConfiguration → Type 0
WovenStep P [] (alone c) v o (alone c') = Reacts P c v o c'
WovenStep P [] (alone c) v o (watched w' j') = ⊥
WovenStep P [] (watched w j) v o y = ⊥
WovenStep P (A ∷ before) (alone c) v o y = ⊥
WovenStep P (A ∷ before) (watched w j) v o (alone c') = ⊥
WovenStep P (A ∷ before) (watched w j) v o (watched w' j') = Watch A (WovenStep P before) (pair w j) v o (pair w' j') false ⊎ Advised A (WovenStep P before) (pair (woven_initial P before) (initial_of A.observer)) (pair w j) v o (pair w' j')

-- in the woven configuration x the woven program reacts to v in exactly one way
pub record HasOneWovenStep (P : PlainModule) (aspects : List Aspect) (x : WovenConfiguration) (v : SignalSet) : Type 0 where
  pub outputs : SignalSet
  pub next : WovenConfiguration
  pub steps : WovenStep P aspects x v outputs next
  pub stays : IsWovenConfiguration P aspects next
  pub only : (o : SignalSet) (y : WovenConfiguration) → WovenStep P aspects x v o y → (o ≡ outputs) × (y ≡ next)

-- from the initial configurations the inputs can give these outputs
abbrev pub IsWovenTrace : PlainModule → List Aspect → List SignalSet → List SignalSet → Type 0
IsWovenTrace P aspects inputs outputs = (configurations : List WovenConfiguration) × Follows (WovenStep P aspects) (woven_initial P aspects) inputs outputs configurations

-- the registers of the base and of the observers
abbrev pub woven_registers : PlainModule → List Aspect → ℕ
woven_registers P [] = register_count P.process
woven_registers P (A ∷ before) = woven_registers P before + register_count A.observer.process

-- which sets of the trace are unrolled into lines
abbrev pub unrolled : Onset → List SignalSet → List SignalSet
unrolled to_initial trace = []
unrolled to_current trace = trace

-- the most lines with this aspect, where what is before it has at most `most`, and the observer at most `lines`
abbrev pub need_with : PlainModule → List Aspect → Aspect → ℕ → ℕ → ℕ
need_with P before A most lines = (length (unrolled A.advice.onset A.advice.trace) + 1) * (most + lines) + 2 * output_count P + woven_registers P (A ∷ before) + 2
