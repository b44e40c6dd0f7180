use Rattle.std.proofs.Common.{◌≡◌, ℕ, ◌+◌, ◌-◌, length}
use Rattle.std.specs.Prelude.{slice_index}
use Rattle.argos_expansion.proofs.marks.Marks.grow.Given as goal

-- all signals have the marks that they had
abbrev pub invariant-loop-self : goal.invariant-loop-self
invariant-loop-self l = (l.self.round ≡ l.initial.self.round) × ((k : ℕ) → slice_index l.self.rounds.items k ≡ slice_index l.initial.self.rounds.items k)

abbrev pub decreases-loop-self : goal.decreases-loop-self
decreases-loop-self l = l.place + 1 - length l.self.rounds.items
