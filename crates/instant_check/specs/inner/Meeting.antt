-- Transitions whose guards hold together, found by diagrams. Source: this project.
use Rattle.std.specs.Prelude.{◌≡◌, ℕ, ◌<◌, ◌≤◌, List, Some, Bool, true, map, length, slice_get, ◌⊎◌}
use Rattle.argos_base.specs.SignalSets.{SignalSet, has}
use Rattle.argos_core.specs.Guards.{holds}
use Rattle.argos_core.specs.Overlaps.{HaveOneEffect}
use Rattle.argos_core.specs.Process.{Transition}
use Rattle.dd_core.specs.declared.nodes.NodeId.{NodeId}
use Rattle.dd_core.specs.Arenas.{ArenaView, Holds, function_of}
use Rattle.dd_ops.specs.Least.{IsBefore}
use Rattle.instant_check.specs.Telling.{DenotesTest}

-- the transitions at both places hold on the set, and their effects differ
pub record Meets (n : ℕ) (ts : List Transition) (x y : ℕ) (S : SignalSet) : Type 0 where
  pub first : Transition
  pub first_at : slice_get ts x ≡ Some first
  pub second : Transition
  pub second_at : slice_get ts y ≡ Some second
  pub first_holds : holds first.guard S ≡ true
  pub second_holds : holds second.guard S ≡ true
  pub differ : ¬ (HaveOneEffect n first second)

-- each node denotes the guard of its transition
pub record AreGuards (arena : ArenaView) (signals : List ℕ) (ts : List Transition) (nodes : List NodeId) : Type 0 where
  pub sized : length nodes ≡ length ts
  pub each : (k : ℕ) (f : NodeId) (t : Transition) → slice_get nodes k ≡ Some f → slice_get ts k ≡ Some t
      → DenotesTest arena f.0 signals (holds t.guard)

-- the two meet where the signals have these values, and nowhere before
pub record IsLeastMeeting (n : ℕ) (signals : List ℕ) (ts : List Transition) (x y : ℕ) (values : List Bool)
    : Type 0 where
  pub sized : length values ≡ length signals
  pub meets : (S : SignalSet) → map (has S) signals ≡ values → Meets n ts x y S
  pub least : (S : SignalSet) → Meets n ts x y S
      → (map (has S) signals ≡ values) ⊎ IsBefore values (map (has S) signals)

-- two transitions never meet
abbrev pub NeverMeet : ℕ → List Transition → ℕ → ℕ → Type 0
NeverMeet n ts x y = (S : SignalSet) → ¬ (Meets n ts x y S)

-- no two transitions meet of which the first stands at this place or later
abbrev pub NoneFrom : ℕ → List Transition → ℕ → Type 0
NoneFrom n ts from = (x y : ℕ) (S : SignalSet) → from ≤ x → x < y → ¬ (Meets n ts x y S)

-- the first two that do, and the least values
pub record IsFirstFrom (n : ℕ) (signals : List ℕ) (ts : List Transition) (from x y : ℕ) (values : List Bool)
    : Type 0 where
  pub from_on : from ≤ x
  pub order : x < y
  pub inside : y < length ts
  pub least : IsLeastMeeting n signals ts x y values
  pub first : (x' y' : ℕ) (S : SignalSet) → from ≤ x' → x' < y'
      → (x' < x) ⊎ ((x' ≡ x) × (y' < y)) → ¬ (Meets n ts x' y' S)

-- the same for one first transition
abbrev pub NoneAfter : ℕ → List Transition → ℕ → ℕ → Type 0
NoneAfter n ts x end = (y : ℕ) (S : SignalSet) → x < y → y < end → ¬ (Meets n ts x y S)

pub record IsFirstAfter (n : ℕ) (signals : List ℕ) (ts : List Transition) (x y : ℕ) (values : List Bool) : Type 0 where
  pub order : x < y
  pub inside : y < length ts
  pub least : IsLeastMeeting n signals ts x y values
  pub first : NoneAfter n ts x y

-- f is true wherever the guard of a transition from this place on holds
pub record Covers (arena : ArenaView) (f : ℕ) (signals : List ℕ) (ts : List Transition) (from : ℕ) : Type 0 where
  pub held : Holds arena f
  pub covers : (y : ℕ) (u : Transition) (S : SignalSet) → from ≤ y → slice_get ts y ≡ Some u → holds u.guard S ≡ true
      → function_of arena f (map (has S) signals) ≡ true
