-- Transitions of different effects. Source: this project.
use Rattle.std.specs.Prelude.{◌≡◌, ℕ, ◌<◌, List, Some, slice_get}
use Rattle.argos_core.specs.Overlaps.{HaveOneEffect}
use Rattle.argos_core.specs.Process.{Transition}

-- two of the transitions go to different states or emit different sets
pub record SomeDiffer (n : ℕ) (ts : List Transition) : Type 0 where
  pub x : ℕ
  pub y : ℕ
  pub order : x < y
  pub first : Transition
  pub first_at : slice_get ts x ≡ Some first
  pub second : Transition
  pub second_at : slice_get ts y ≡ Some second
  pub differ : ¬ (HaveOneEffect n first second)
