use Rattle.argos_verdict.proofs.SomeDecision.{some_decision}
use Rattle.argos_verdict.proofs.laws.some_decision.Goals as goal

pub returns : goal.returns
returns c = some_decision
