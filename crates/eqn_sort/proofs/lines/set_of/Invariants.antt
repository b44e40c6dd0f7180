use Rattle.std.proofs.Common.{◌≡◌, ℕ, ◌||◌, length, drop}
use Rattle.argos_base.specs.SignalSets.{has, lists}
use Rattle.eqn_sort.proofs.lines.set_of.Given as goal

abbrev pub invariant-loop-number : goal.invariant-loop-number
invariant-loop-number l = (length l.set ≡ l.count) × ((k : ℕ) → (has l.set k || lists (drop l.number-index l.numbers) k) ≡ lists l.numbers k)
