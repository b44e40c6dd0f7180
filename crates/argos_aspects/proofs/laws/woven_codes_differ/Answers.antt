use Rattle.argos_aspects.proofs.WovenLaws.{woven_codes_are_sized, codes_differ}
use Rattle.argos_aspects.proofs.laws.woven_codes_differ.Goals as goal

pub returns-clause-sized : goal.returns-clause-sized
returns-clause-sized c = woven_codes_are_sized

pub returns-clause-distinct : goal.returns-clause-distinct
returns-clause-distinct c = codes_differ
