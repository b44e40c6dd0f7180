use Rattle.c_step.proofs.PieceSteps.{before_found}
use Rattle.c_step.proofs.pieces.before.Goals as goal

pub returns : goal.returns
returns c = before_found c.args.bytes.now c.args.text.now c.strip_suffix.result c.strip_suffix.ensures.cases
