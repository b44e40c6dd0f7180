use Rattle.std.proofs.Common.{ap, ◌∙◌, length}
use Rattle.argos_base.proofs.SetLemmas.{length-set_where}
use Rattle.trace_io.proofs.words.read_words.Goals as goal

pub returns-then-is_dash-clause-sized : goal.returns-then-is_dash-clause-sized
returns-then-is_dash-clause-sized c = ap length c.clear.ensures ∙ length-set_where _ _ ∙ c.requires
