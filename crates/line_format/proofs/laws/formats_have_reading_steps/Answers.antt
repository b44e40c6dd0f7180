use Rattle.line_format.proofs.Answering.{reading_steps}
use Rattle.line_format.proofs.laws.formats_have_reading_steps.Goals as goal

pub returns : goal.returns
returns g c = λ F. reading_steps F
