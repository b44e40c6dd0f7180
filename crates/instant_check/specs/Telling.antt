-- Diagrams of tests on sets of signals. Source: this project.
use Rattle.std.specs.Prelude.{◌≡◌, ℕ, List, Bool, true, map}
use Rattle.argos_base.specs.SignalSets.{SignalSet, has, lists}
use Rattle.dd_core.specs.Arenas.{ArenaView, Holds, function_of}

-- The node f denotes the test, where variable k stands for the k-th of these signals: it has the test's value on each set of signals.
pub record DenotesTest (arena : ArenaView) (f : ℕ) (signals : List ℕ) (test : SignalSet → Bool) : Type 0 where
  pub held : Holds arena f
  pub exact : (S : SignalSet) → function_of arena f (map (has S) signals) ≡ test S

-- the signals that are read are among these
abbrev pub AreAmong : (ℕ → Bool) → List ℕ → Type 0
AreAmong read signals = (k : ℕ) → read k ≡ true → lists signals k ≡ true
