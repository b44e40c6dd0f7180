-- Which signal depends on which, and which locals depend on themselves. Source: this project.
use Rattle.std.specs.Prelude.{◌≡◌, ℕ, ◌+◌, ◌<◌, ◌≤◌, List, [], ◌∷◌, ◌++◌, Option, Some, None, Bool, true, ◌||◌, nat_eq, map, slice_get}
use Rattle.eqn_core.specs.Chains.{Chain}
use Rattle.argos_base.specs.SignalSets.{lists}
use Rattle.argos_core.specs.Guards.{reads}
use Rattle.argos_core.specs.Overlaps.{IsStateAt, some_reads}
use Rattle.argos_core.specs.Process.{Transition, Timeout, Rules, PlainModule}
use Rattle.argos_core.specs.Reactions.{input_count, output_count, signal_count}

-- a way out of a state: what it emits, and which signals decide it
pub record Exit : Type 0 where
  pub outs : List ℕ
  pub reads : ℕ → Bool

-- a transition is decided by its guard
abbrev pub transition_exits : List Transition → List Exit
transition_exits = map (λ t. record { outs = t.outs; reads = reads t.guard })

-- a timeout is decided by the guards of its state and by the signal that it counts
abbrev pub timeout_exits : List Transition → Option Timeout → List Exit
timeout_exits ts None = []
timeout_exits ts (Some w) = record { outs = w.outs; reads = λ k. some_reads ts k || nat_eq w.signal k } ∷ []

abbrev pub exits_of : Rules → List Exit
exits_of s = transition_exits s.transitions ++ timeout_exits s.transitions s.timeout

-- x is emitted by a way out of a state that y decides, or that stands in a process that y stops
pub record DependsDirectly (P : PlainModule) (x y : ℕ) : Type 0 where
  pub register : ℕ
  pub state : ℕ
  pub rules : Rules
  pub state_is : IsStateAt P register state rules
  pub place : ℕ
  pub exit : Exit
  pub exit_at : slice_get (exits_of rules) place ≡ Some exit
  pub emits : lists exit.outs x ≡ true
  pub decided : (exit.reads y || state_is.automaton.stopped_by y) ≡ true

-- a local that depends on itself through one or more links
pub record IsCyclic (P : PlainModule) (k : ℕ) : Type 0 where
  pub after_outputs : input_count P + output_count P ≤ k
  pub exists : k < signal_count P
  pub chain : Chain (DependsDirectly P) k k

-- the list holds exactly the numbers of a kind, in order
pub record IsListOf (Is : ℕ → Type 0) (ks : List ℕ) : Type 0 where
  pub each : (k : ℕ) → lists ks k ≡ true → Is k
  pub all : (k : ℕ) → Is k → lists ks k ≡ true
  pub ordered : (j k x y : ℕ) → j < k → slice_get ks j ≡ Some x → slice_get ks k ≡ Some y → x < y

-- ks are the cyclic signals of the module
abbrev pub AreCyclicSignals : PlainModule → List ℕ → Type 0
AreCyclicSignals P ks = IsListOf (IsCyclic P) ks
