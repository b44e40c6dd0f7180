use Rattle.bisim_verdict.proofs.Making.{systems_decide, differing_is_told}
use Rattle.bisim_verdict.proofs.laws.systems_decide.Goals as goal

pub returns-clause-decide : goal.returns-clause-decide
returns-clause-decide c = systems_decide

pub returns-clause-told : goal.returns-clause-told
returns-clause-told c = differing_is_told
