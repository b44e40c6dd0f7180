use Rattle.argos_sample.proofs.Modules.{samples_mean}
use Rattle.argos_sample.proofs.laws.samples_are_modules.Goals as goal

pub returns : goal.returns
returns c = samples_mean
