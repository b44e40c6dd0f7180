use Rattle.c_step.proofs.PieceSteps.{behind_found}
use Rattle.c_step.proofs.pieces.behind.Goals as goal

pub returns : goal.returns
returns c = behind_found c.args.bytes.now c.args.text.now c.strip_prefix.result c.strip_prefix.ensures.cases
