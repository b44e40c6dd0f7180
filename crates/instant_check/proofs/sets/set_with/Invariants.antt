use Rattle.instant_check.proofs.ChosenSets.{ChosenUpTo}
use Rattle.instant_check.proofs.sets.set_with.Given as goal

abbrev pub invariant-loop-place : goal.invariant-loop-place
invariant-loop-place l = ChosenUpTo l.count l.signals l.values l.place l.set
