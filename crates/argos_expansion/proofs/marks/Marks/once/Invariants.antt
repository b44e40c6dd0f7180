use Rattle.std.proofs.Common.{◌≡◌, ℕ, eqb}
use Rattle.std.specs.List.{list_any}
use Rattle.argos_core.specs.Views.{numbers}
use Rattle.argos_expansion.specs.inner.Marked.{is_marked}
use Rattle.argos_expansion.proofs.OnceLists.{AreOnceSoFar}
use Rattle.argos_expansion.proofs.marks.Marks.once.Given as goal

-- what is marked is what came out so far
abbrev pub invariant-loop-signal : goal.invariant-loop-signal
invariant-loop-signal l = ((k : ℕ) → is_marked l.self.round l.self.rounds.items k ≡ list_any (eqb k) (numbers l.outs.items)) × AreOnceSoFar l.signals (numbers l.outs.items) l.signal-index
