use Rattle.eqn_core.proofs.PlanLemmas.{plans_have_one_cyclic}
use Rattle.eqn_core.proofs.laws.plans_have_one_cyclic.Goals as goal

pub returns : goal.returns
returns c = plans_have_one_cyclic
