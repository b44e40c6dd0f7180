use Rattle.std.proofs.Common.{◌≡◌, [], ◌≤◌, length}
use Rattle.eqn_order.specs.inner.Graphs.{rows_of}
use Rattle.eqn_order.specs.inner.Searches.{Gathers}
use Rattle.eqn_order.proofs.components.roots.Given as goal

abbrev pub invariant-loop-place : goal.invariant-loop-place
invariant-loop-place l = Gathers (rows_of l.readers) l.finished l.place l.place l.search.seen.items l.search.roots.items [] × (l.search.waiting.items ≡ []) × (l.place ≤ length l.finished)

abbrev pub decreases-loop-place : goal.decreases-loop-place
decreases-loop-place l = l.place
