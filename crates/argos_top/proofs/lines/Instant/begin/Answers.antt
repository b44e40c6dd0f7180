use Rattle.std.proofs.Common.{◌∙◌, ap, length}
use Rattle.argos_base.proofs.SetLemmas.{length-set_where}
use Rattle.argos_top.proofs.lines.Instant.begin.Goals as goal

pub returns-clause-input : goal.returns-clause-input
returns-clause-input c = ap length (c.in_ok-new.ensures {u = tt}) ∙ length-set_where _ _ ∙ c.len.ensures.count

pub returns-clause-output : goal.returns-clause-output
returns-clause-output c = ap length (c.in_ok-new-2.ensures {u = tt}) ∙ length-set_where _ _ ∙ c.len-2.ensures.count
