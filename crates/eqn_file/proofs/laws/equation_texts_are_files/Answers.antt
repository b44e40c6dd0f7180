use Rattle.eqn_file.proofs.EquationLaws.{texts_are_files}
use Rattle.eqn_file.proofs.laws.equation_texts_are_files.Goals as goal

pub returns : goal.returns
returns c = texts_are_files
