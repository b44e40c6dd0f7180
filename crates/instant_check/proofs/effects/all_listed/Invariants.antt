use Rattle.instant_check.proofs.EffectLists.{AreListedUpTo}
use Rattle.instant_check.proofs.effects.all_listed.Given as goal

abbrev pub invariant-loop-signal : goal.invariant-loop-signal
invariant-loop-signal l = AreListedUpTo l.count l.signals l.others l.signal-index
