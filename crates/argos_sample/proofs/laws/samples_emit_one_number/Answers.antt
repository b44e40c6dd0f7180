use Rattle.argos_sample.proofs.OneNumber.{one_number, some_number}
use Rattle.argos_sample.proofs.laws.samples_emit_one_number.Goals as goal

pub returns-clause-one : goal.returns-clause-one
returns-clause-one c = one_number

pub returns-clause-some : goal.returns-clause-some
returns-clause-some c = some_number
