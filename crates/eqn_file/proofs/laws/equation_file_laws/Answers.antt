use Rattle.eqn_file.proofs.EquationLaws.{equation_file_laws}
use Rattle.eqn_file.proofs.laws.equation_file_laws.Goals as goal

pub returns : goal.returns
returns c = equation_file_laws
