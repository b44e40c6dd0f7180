-- A set into which numbers come.
use Rattle.std.specs.Prelude.{◌≡◌, ℕ, ◌<◌, Bool, ◌||◌, length}
use Rattle.argos_base.specs.SignalSets.{SignalSet, has}

-- new is old with the numbers of its length that pass the test
pub record IsMarked (test : ℕ → Bool) (old new : SignalSet) : Type 0 where
  pub sized : length new ≡ length old
  pub marked : (k : ℕ) → k < length old → has new k ≡ (has old k || test k)
