-- The first of a list of states that decides. Source: this project.
use Rattle.std.specs.Prelude.{◌≡◌, ℕ, ◌+◌, ◌<◌, List, Some, Result, Ok, Err, length, slice_get, ◌⊎◌}
use Rattle.argos_core.specs.Process.{Transition}
use Rattle.instant_check.specs.Effects.{SomeDiffer}
use Rattle.instant_check.specs.ModuleOverlaps.{StandsBefore, Fits, IsPassed}
use Rattle.instant_check.specs.Reading.{signals_read}
use Rattle.instant_check.specs.StateOverlaps.{IsLeastOverlap, IsStopped}
use Rattle.eqn_dd.specs.declared.errors.CheckError.{CheckError}
use Rattle.eqn_dd.specs.declared.errors.CheckError.TheVariants.{Variables, Budget, OutOfMemory}
use Rattle.instant_check.specs.declared.search.OverlapFound.{OverlapFound}
use Rattle.instant_check.specs.declared.search.OverlapFound.TheVariants.{Clear, Overlap}
use Rattle.instant_check.specs.inner.Jobs.{Jobs}

-- state q of automaton k
pub record IsAt (jobs : Jobs) (k q : ℕ) (ts : List Transition) : Type 0 where
  pub states : List (List Transition)
  pub automaton : slice_get jobs k ≡ Some states
  pub state : slice_get states q ≡ Some ts

abbrev pub ArePassed : ℕ → Jobs → Type 0
ArePassed n jobs = (k q : ℕ) (ts : List Transition) → IsAt jobs k q ts → IsPassed n ts

-- the state is there, and those before it are passed
pub record Reaches (n : ℕ) (jobs : Jobs) (k q : ℕ) (ts : List Transition) : Type 0 where
  pub at : IsAt jobs k q ts
  pub before : (k' q' : ℕ) (us : List Transition) → StandsBefore k' q' k q → IsAt jobs k' q' us → IsPassed n us

-- the answer that state q of register r gives, if it decides
abbrev pub Decides : ℕ → ℕ → ℕ → ℕ → List Transition → Result OverlapFound CheckError → Type 0
Decides n budget r q ts (Ok Clear) = ⊥
Decides n budget r q ts (Ok (Overlap register number x y S)) =
    (register.0 ≡ r) × (number ≡ q) × Fits n ts × IsLeastOverlap n ts x y S
Decides n budget r q ts (Err (Variables m)) = SomeDiffer n ts × (m ≡ length (signals_read n ts)) × (1024 < m)
Decides n budget r q ts (Err (Budget arena)) = SomeDiffer n ts × IsStopped n ts budget arena
Decides n budget r q ts (Err OutOfMemory) = Unit {0}

-- the answer of one state
abbrev pub Settles : ℕ → ℕ → ℕ → ℕ → List Transition → Result OverlapFound CheckError → Type 0
Settles n budget r q ts result = ((result ≡ Ok Clear) × IsPassed n ts) ⊎ Decides n budget r q ts result

-- some state is the first that decides, where the first automaton has register base
pub record Stops (n budget base : ℕ) (jobs : Jobs) (result : Result OverlapFound CheckError) : Type 0 where
  pub place : ℕ
  pub number : ℕ
  pub transitions : List Transition
  pub reaches : Reaches n jobs place number transitions
  pub decides : Decides n budget (base + place) number transitions result

-- the answer of a list of states
abbrev pub Answers : ℕ → ℕ → ℕ → Jobs → Result OverlapFound CheckError → Type 0
Answers n budget base jobs result = ((result ≡ Ok Clear) × ArePassed n jobs) ⊎ Stops n budget base jobs result
