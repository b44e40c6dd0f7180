use Rattle.std.proofs.Common.{◌∙◌}
use Rattle.argos_core.proofs.Emitting.{list_any-numbers}
use Rattle.argos_core.proofs.signals.lists.Goals as goal

pub returns : goal.returns
returns c = c.has_number.ensures ∙ list_any-numbers c.args.signals.now c.args.signal.0
