use Rattle.argos_verdict.proofs.OneDecision.{one_decision}
use Rattle.argos_verdict.proofs.laws.one_decision.Goals as goal

pub returns : goal.returns
returns c = one_decision
