use Rattle.std.proofs.Common.{◌≡◌, ℕ, ◌+◌, ◌++◌, drop, length}
use Rattle.argos_core.specs.Views.{numbers}
use Rattle.eqn_scheme.specs.Scheme.{for_signal}
use Rattle.eqn_build.specs.inner.BuilderViews.{literals_at}
use Rattle.eqn_build.proofs.tables.put_emissions.Given as goal

-- with the signals that are left come all
abbrev pub invariant-loop-signal : goal.invariant-loop-signal
invariant-loop-signal l = record {
  len : length l.lists.items ≡ length l.initial.lists.items;
  each : (k : ℕ) → literals_at l.lists.items k ++ for_signal l.bit (numbers (drop l.signal-index l.signals)) (l.first + k) ≡ literals_at l.initial.lists.items k ++ for_signal l.bit (numbers l.signals) (l.first + k);
}
