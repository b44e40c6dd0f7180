use Rattle.dd_core.proofs.FunctionCount.{fewer}
use Rattle.dd_core.proofs.laws.full_arenas_are_small.Goals as goal

pub returns : goal.returns
returns c = λ arena valid room. fewer arena valid room.full room.lacks
