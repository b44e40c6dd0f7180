use Rattle.argos_congruence.proofs.CongruenceLaws.{bisimilar_are_equal, bisimilar_traces_move}
use Rattle.argos_congruence.proofs.laws.bisimilar_are_equal_under_aspects.Goals as goal

pub returns-clause-equal : goal.returns-clause-equal
returns-clause-equal c = bisimilar_are_equal

pub returns-clause-moves : goal.returns-clause-moves
returns-clause-moves c = bisimilar_traces_move
