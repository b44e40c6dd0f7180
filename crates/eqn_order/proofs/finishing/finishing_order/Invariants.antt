use Rattle.std.proofs.Common.{◌≡◌, ℕ, [], ◌<◌, true}
use Rattle.argos_base.specs.SignalSets.{has}
use Rattle.eqn_order.specs.inner.Graphs.{rows_of}
use Rattle.eqn_order.specs.inner.Views.{IsSearch}
use Rattle.eqn_order.proofs.finishing.finishing_order.Given as goal

abbrev pub invariant-loop-root : goal.invariant-loop-root
invariant-loop-root l = IsSearch (rows_of l.rows) l.search × (l.search.path.items ≡ []) × ((x : ℕ) → x < l.root → has l.search.seen.items x ≡ true)
