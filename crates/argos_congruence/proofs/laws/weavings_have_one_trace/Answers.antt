use Rattle.argos_congruence.proofs.CongruenceLaws.{moved_aspects_fit, weavings_have_one_trace}
use Rattle.argos_congruence.proofs.laws.weavings_have_one_trace.Goals as goal

pub returns-clause-fit : goal.returns-clause-fit
returns-clause-fit c = moved_aspects_fit

pub returns-clause-one : goal.returns-clause-one
returns-clause-one c = weavings_have_one_trace
