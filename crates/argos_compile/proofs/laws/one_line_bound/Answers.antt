use Rattle.argos_compile.proofs.LineBounds.{one_line_bound}
use Rattle.argos_compile.proofs.laws.one_line_bound.Goals as goal

pub returns : goal.returns
returns c = one_line_bound
