-- The text of a sample means its module.
use Rattle.argos_sample.specs.Laws.{SamplesAreModules}
use Rattle.argos_sample.proofs.Meant.{means}
use Rattle.argos_sample.proofs.Resolving.{sample_resolves}

pub samples_mean : SamplesAreModules
samples_mean n l m = means n l m (sample_resolves n l m)
