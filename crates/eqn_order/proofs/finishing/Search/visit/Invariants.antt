use Rattle.std.proofs.Common.{◌≡◌, ℕ, true}
use Rattle.argos_base.specs.SignalSets.{has}
use Rattle.eqn_order.specs.inner.Graphs.{rows_of}
use Rattle.eqn_order.specs.inner.Searches.{work}
use Rattle.eqn_order.specs.inner.Views.{IsSearch}
use Rattle.eqn_order.proofs.finishing.Search.visit.Given as goal

abbrev pub invariant-loop-line : goal.invariant-loop-line
invariant-loop-line l = IsSearch (rows_of l.rows) l.self × (has l.self.seen.items l.root ≡ true) × ((x : ℕ) → has l.fn.self.seen.items x ≡ true → has l.self.seen.items x ≡ true)

abbrev pub decreases-loop-line : goal.decreases-loop-line
decreases-loop-line l = work (rows_of l.rows) l.self.followed.items l.self.path.items
