use Rattle.std.proofs.Common.{◌≡◌, ℕ, ◌+◌, ◌<◌, Some, ◌∷◌, length, get_or, slice_get, true}
use Rattle.argos_base.specs.SignalSets.{has}
use Rattle.eqn_order.specs.inner.Graphs.{rows_of, row}
use Rattle.eqn_order.specs.inner.Searches.{Gathers, unseen}
use Rattle.eqn_order.proofs.components.Gathering.gather.Given as goal

abbrev pub invariant-loop-line : goal.invariant-loop-line
invariant-loop-line l = Gathers (rows_of l.readers) l.finished (l.place + 1) l.place l.self.seen.items l.self.roots.items l.self.waiting.items × (has l.self.seen.items (get_or l.finished l.place 0) ≡ true)

abbrev pub decreases-loop-line : goal.decreases-loop-line
decreases-loop-line l = unseen l.self.seen.items + length l.self.waiting.items

abbrev pub invariant-loop-reader : goal.invariant-loop-reader
invariant-loop-reader l =
    Gathers (rows_of l.readers) l.finished (l.place + 1) l.place l.self.seen.items l.self.roots.items (l.line ∷ l.self.waiting.items)
    × (has l.self.seen.items (get_or l.finished l.place 0) ≡ true)
    × (unseen l.self.seen.items + length l.self.waiting.items ≡ unseen l.initial.self.seen.items + length l.initial.self.waiting.items)
    × (l.row ≡ row (rows_of l.readers) l.line)
    × ((c x : ℕ) → c < l.reader-index → slice_get l.row c ≡ Some x → has l.self.seen.items x ≡ true)
