-- Overlaps of one state, given by its transitions. Source: this project.
use Rattle.std.specs.Prelude.{◌≡◌, ℕ, ◌+◌, ◌*◌, ◌^◌, ◌<◌, ◌≤◌, List, ◌∷◌, Some, true, length, slice_get}
use Rattle.argos_base.specs.Orders.{IsEarlier, digits}
use Rattle.argos_base.specs.SignalSets.{SignalSet, has}
use Rattle.argos_core.specs.Guards.{holds}
use Rattle.argos_core.specs.Overlaps.{HaveOneEffect, some_reads}
use Rattle.argos_core.specs.Process.{Transition}
use Rattle.argos_core.specs.Sizes.{transitions_size}
use Rattle.dd_core.specs.Arenas.{ArenaView, IsFull, LacksFunction}
use Rattle.dd_core.specs.Functions.{need}
use Rattle.instant_check.specs.Reading.{signals_read}

-- both transitions, at places x < y, hold on the set S of signals that the guards read, of n signals, and their effects
-- differ
pub record OverlapsAt (n : ℕ) (ts : List Transition) (x y : ℕ) (S : SignalSet) : Type 0 where
  pub order : x < y
  pub first : Transition
  pub first_at : slice_get ts x ≡ Some first
  pub second : Transition
  pub second_at : slice_get ts y ≡ Some second
  pub sized : length S ≡ n
  pub read : (k : ℕ) → has S k ≡ true → some_reads ts k ≡ true
  pub first_holds : holds first.guard S ≡ true
  pub second_holds : holds second.guard S ≡ true
  pub differ : ¬ (HaveOneEffect n first second)

-- no two transitions do
abbrev pub HasNoOverlap : ℕ → List Transition → Type 0
HasNoOverlap n ts = (x y : ℕ) (S : SignalSet) → ¬ (OverlapsAt n ts x y S)

-- the least overlap: by first and second place, and set
pub record IsLeastOverlap (n : ℕ) (ts : List Transition) (x y : ℕ) (S : SignalSet) : Type 0 where
  pub is : OverlapsAt n ts x y S
  pub first : (x' y' : ℕ) (S' : SignalSet) → OverlapsAt n ts x' y' S'
      → ¬ (IsEarlier (x' ∷ y' ∷ digits S') (x ∷ y ∷ digits S))

-- more than the operations on diagrams of a state's job with v variables
abbrev pub operations_of : List Transition → ℕ → ℕ
operations_of ts v = 16 * (transitions_size ts + v + 16) ^ 2

-- The arena in which an operation answered Budget: its variables are the signals that the guards read, at most 1,024; it
-- holds as many nodes as it may, fewer than the job needs; and it lacks a function of its variables.
pub record IsStopped (n : ℕ) (ts : List Transition) (budget : ℕ) (arena : ArenaView) : Type 0 where
  pub variables : arena.variables ≡ length (signals_read n ts)
  pub fits : arena.variables ≤ 1024
  pub budget_is : arena.budget ≡ budget
  pub full : IsFull arena
  pub needed : budget < need (operations_of ts arena.variables) arena.variables
  pub lacks : LacksFunction arena
