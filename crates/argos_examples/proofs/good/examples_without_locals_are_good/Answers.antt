use Rattle.argos_examples.proofs.GoodPrograms.{toggle_is_good, last_instant_is_good, self_loop_is_good, freezing_is_good, timeouts_is_good}
use Rattle.argos_examples.proofs.good.examples_without_locals_are_good.Goals as goal

pub returns-clause-toggle : goal.returns-clause-toggle
returns-clause-toggle c = toggle_is_good

pub returns-clause-last_instant : goal.returns-clause-last_instant
returns-clause-last_instant c = last_instant_is_good

pub returns-clause-self_loop : goal.returns-clause-self_loop
returns-clause-self_loop c = self_loop_is_good

pub returns-clause-freezing : goal.returns-clause-freezing
returns-clause-freezing c = freezing_is_good

pub returns-clause-timeouts : goal.returns-clause-timeouts
returns-clause-timeouts c = timeouts_is_good
