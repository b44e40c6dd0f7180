use Rattle.argos_sample.proofs.Spans.{samples_are_short}
use Rattle.argos_sample.proofs.laws.samples_are_short.Goals as goal

pub returns : goal.returns
returns c = samples_are_short
