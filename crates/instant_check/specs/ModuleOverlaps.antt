-- What a check of a module for overlaps answers. Source: this project.
use Rattle.std.specs.Prelude.{◌≡◌, ℕ, ◌<◌, ◌≤◌, List, length, ◌⊎◌}
use Rattle.argos_base.specs.SignalSets.{SignalSet}
use Rattle.argos_core.specs.Overlaps.{IsStateAt, IsOverlap, IsFirstOverlap}
use Rattle.argos_core.specs.Process.{Transition, Rules, PlainModule}
use Rattle.argos_core.specs.Reactions.{signal_count}
use Rattle.dd_core.specs.Arenas.{ArenaView}
use Rattle.instant_check.specs.Effects.{SomeDiffer}
use Rattle.instant_check.specs.Reading.{signals_read}
use Rattle.instant_check.specs.StateOverlaps.{HasNoOverlap, IsStopped}
use Rattle.instant_check.specs.declared.search.OverlapFound.{OverlapFound}
use Rattle.instant_check.specs.declared.search.OverlapFound.TheVariants.{Clear, Overlap}

-- a state stands before another: its register is smaller, or it has the same one and a smaller number
abbrev pub StandsBefore : ℕ → ℕ → ℕ → ℕ → Type 0
StandsBefore r' q' r q = (r' < r) ⊎ ((r' ≡ r) × (q' < q))

-- where the state is a job, which it is where two of its transitions differ in effect, it has at most 1,024 variables
abbrev pub Fits : ℕ → List Transition → Type 0
Fits n ts = SomeDiffer n ts → length (signals_read n ts) ≤ 1024

-- the state decides nothing
pub record IsPassed (n : ℕ) (ts : List Transition) : Type 0 where
  pub none : HasNoOverlap n ts
  pub fits : Fits n ts

-- the state is there, and none before it decides
pub record IsReached (P : PlainModule) (r q : ℕ) (rules : Rules) : Type 0 where
  pub state : IsStateAt P r q rules
  pub before : (r' q' : ℕ) (earlier : Rules) → StandsBefore r' q' r q → IsStateAt P r' q' earlier
      → IsPassed (signal_count P) earlier.transitions

-- no state has an overlap, or too many variables
pub record IsClear (P : PlainModule) : Type 0 where
  pub none : (r q x y : ℕ) (S : SignalSet) → ¬ (IsOverlap P r q x y S)
  pub fits : (r q : ℕ) (rules : Rules) → IsStateAt P r q rules → Fits (signal_count P) rules.transitions

-- the first overlap, and no state up to its own has too many variables
pub record IsFound (P : PlainModule) (r q x y : ℕ) (S : SignalSet) : Type 0 where
  pub first : IsFirstOverlap P r q x y S
  pub rules : Rules
  pub reached : IsReached P r q rules
  pub fits : Fits (signal_count P) rules.transitions

abbrev pub IsAnswer : PlainModule → OverlapFound → Type 0
IsAnswer P Clear = IsClear P
IsAnswer P (Overlap r q x y S) = IsFound P r.0 q x y S

-- the first state that decides is a job with n variables, which is more than 1,024
pub record IsTooWide (P : PlainModule) (n : ℕ) : Type 0 where
  pub register : ℕ
  pub number : ℕ
  pub rules : Rules
  pub reached : IsReached P register number rules
  pub differ : SomeDiffer (signal_count P) rules.transitions
  pub variables : n ≡ length (signals_read (signal_count P) rules.transitions)
  pub many : 1024 < n

-- the first state that decides is a job that was stopped with this arena
pub record IsOutOfBudget (P : PlainModule) (budget : ℕ) (arena : ArenaView) : Type 0 where
  pub register : ℕ
  pub number : ℕ
  pub rules : Rules
  pub reached : IsReached P register number rules
  pub differ : SomeDiffer (signal_count P) rules.transitions
  pub stopped : IsStopped (signal_count P) rules.transitions budget arena
