use Rattle.c_emit.proofs.KeepsRules.{keeps_rules}
use Rattle.c_emit.proofs.laws.c_steps_of_systems.Goals as goal

pub returns : goal.returns
returns c = keeps_rules
