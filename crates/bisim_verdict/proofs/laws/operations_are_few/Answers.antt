use Rattle.bisim_verdict.proofs.Few.{operations_are_few}
use Rattle.bisim_verdict.proofs.laws.operations_are_few.Goals as goal

pub returns : goal.returns
returns c = record { few = operations_are_few }
