use Rattle.argos_core.proofs.OneReaction.{reacts_once}
use Rattle.argos_core.proofs.laws.programs_react_once_without_locals.Goals as goal

pub returns : goal.returns
returns c = reacts_once
