use Rattle.argos_core.proofs.OneTrace.{has_one_trace}
use Rattle.argos_core.proofs.laws.good_programs_have_one_trace.Goals as goal

pub returns : goal.returns
returns c = has_one_trace
