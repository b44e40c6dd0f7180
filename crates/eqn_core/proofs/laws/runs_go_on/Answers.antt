use Rattle.eqn_core.proofs.Once.{runs_begin, runs_go_on}
use Rattle.eqn_core.proofs.laws.runs_go_on.Goals as goal

pub returns-clause-begins : goal.returns-clause-begins
returns-clause-begins c = runs_begin

pub returns-clause-goes_on : goal.returns-clause-goes_on
returns-clause-goes_on c = runs_go_on
