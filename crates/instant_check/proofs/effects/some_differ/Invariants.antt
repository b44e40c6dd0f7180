use Rattle.std.proofs.Common.{map}
use Rattle.argos_core.specs.Views.{transition_of}
use Rattle.instant_check.proofs.EffectLists.{AlikeUpTo}
use Rattle.instant_check.proofs.effects.some_differ.Given as goal

abbrev pub invariant-loop-transition : goal.invariant-loop-transition
invariant-loop-transition l = AlikeUpTo l.count (map transition_of l.transitions) l.transition-index
