use Rattle.argos_sample.proofs.Good.{samples_good, sample_is_not_refused}
use Rattle.argos_sample.proofs.laws.samples_are_good.Goals as goal

pub returns-clause-good : goal.returns-clause-good
returns-clause-good c = samples_good

pub returns-clause-accepted : goal.returns-clause-accepted
returns-clause-accepted c = sample_is_not_refused
