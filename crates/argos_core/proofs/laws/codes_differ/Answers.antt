use Rattle.argos_core.proofs.CodesDiffer.{length-code_of, same_code}
use Rattle.argos_core.proofs.laws.codes_differ.Goals as goal

pub returns-clause-sized : goal.returns-clause-sized
returns-clause-sized c = length-code_of

pub returns-clause-distinct : goal.returns-clause-distinct
returns-clause-distinct c = same_code
