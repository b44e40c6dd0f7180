use Rattle.eqn_scheme.proofs.Choices.{equations_choose_locals}
use Rattle.eqn_scheme.proofs.laws.equations_choose_locals.Goals as goal

pub returns : goal.returns
returns c = equations_choose_locals
