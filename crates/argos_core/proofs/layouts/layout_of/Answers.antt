use Rattle.std.proofs.Common.{◌∙◌}
use Rattle.argos_core.specs.Views.{process_of}
use Rattle.argos_core.proofs.Shaping.{shapes_from-layout}
use Rattle.argos_core.proofs.layouts.layout_of.Goals as goal

pub returns : goal.returns
returns c = (rw c.new-regs.ensures.items at c.in_ok-put_process.ensures.shapes) ∙ shapes_from-layout (process_of c.args.prog.now)
