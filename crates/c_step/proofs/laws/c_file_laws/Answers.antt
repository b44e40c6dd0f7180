use Rattle.c_step.proofs.CFileLaws.{c_file_laws}
use Rattle.c_step.proofs.laws.c_file_laws.Goals as goal

pub returns : goal.returns
returns c = c_file_laws
