use Rattle.eqn_scheme.proofs.System.{equations_react, equations_stay_structural}
use Rattle.eqn_scheme.proofs.laws.equations_react.Goals as goal

pub returns-clause-reactions : goal.returns-clause-reactions
returns-clause-reactions c = equations_react

pub returns-clause-structural : goal.returns-clause-structural
returns-clause-structural c = equations_stay_structural
