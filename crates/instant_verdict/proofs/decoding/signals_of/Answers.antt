use Rattle.std.proofs.Common.{arith}
use Rattle.instant_verdict.proofs.DigitsRead.{none_set}
use Rattle.instant_verdict.proofs.decoding.signals_of.Goals as goal

pub loop-number-init : goal.loop-number-init
loop-number-init c = none_set c.args.values.now c.in_ok-set.set _ (omega arith) c.in_ok-set.ensures
