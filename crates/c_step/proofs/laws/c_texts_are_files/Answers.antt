use Rattle.c_step.proofs.CFileLaws.{c_texts_are_files}
use Rattle.c_step.proofs.laws.c_texts_are_files.Goals as goal

pub returns : goal.returns
returns c = c_texts_are_files
