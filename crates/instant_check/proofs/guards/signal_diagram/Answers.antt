use Rattle.instant_check.proofs.TestDiagrams.{test_signal}
use Rattle.instant_check.proofs.guards.signal_diagram.Goals as goal

pub returns-clause-denotes : goal.returns-clause-denotes
returns-clause-denotes c = test_signal c.args.signals.now c.args.signal c.requires.sized c.place_of.ensures c.var.ensures.made
