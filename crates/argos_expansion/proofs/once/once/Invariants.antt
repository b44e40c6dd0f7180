use Rattle.std.proofs.Common.{◌≡◌}
use Rattle.argos_core.specs.Views.{numbers}
use Rattle.argos_expansion.proofs.OnceLists.{AreOnceSoFar}
use Rattle.argos_expansion.proofs.once.once.Given as goal

-- what was seen is what came out so far
abbrev pub invariant-loop-signal : goal.invariant-loop-signal
invariant-loop-signal l = (l.seen.keys ≡ numbers l.outs.items) × AreOnceSoFar l.signals (numbers l.outs.items) l.signal-index
