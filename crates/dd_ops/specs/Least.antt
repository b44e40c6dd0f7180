-- The least values that make a function true: variable 0 first, and false before true.
use Rattle.std.specs.Prelude.{◌≡◌, ℕ, List, Bool, true, false, Some, length, take, slice_get, ◌⊎◌}
use Rattle.dd_core.specs.Functions.{Function}

-- where the two first differ, x is false
pub record IsBefore (x y : List Bool) : Type 0 where
  pub place : ℕ
  pub same : take place x ≡ take place y
  pub here : slice_get x place ≡ Some false
  pub there : slice_get y place ≡ Some true

-- x makes g true, and stands before all others that do
pub record IsLeast (v : ℕ) (g : Function) (x : List Bool) : Type 0 where
  pub sized : length x ≡ v
  pub holds : g x ≡ true
  pub first : (y : List Bool) → length y ≡ v → g y ≡ true → (y ≡ x) ⊎ IsBefore x y
