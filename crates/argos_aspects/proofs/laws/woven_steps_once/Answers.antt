use Rattle.argos_aspects.proofs.WovenLaws.{woven_initial_is_one, woven_steps_once}
use Rattle.argos_aspects.proofs.laws.woven_steps_once.Goals as goal

pub returns-clause-initial : goal.returns-clause-initial
returns-clause-initial c = woven_initial_is_one

pub returns-clause-once : goal.returns-clause-once
returns-clause-once c = woven_steps_once
