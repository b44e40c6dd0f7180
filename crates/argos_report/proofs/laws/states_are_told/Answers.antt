use Rattle.argos_report.proofs.Telling.{states_told}
use Rattle.argos_report.proofs.laws.states_are_told.Goals as goal

pub returns : goal.returns
returns c = states_told
