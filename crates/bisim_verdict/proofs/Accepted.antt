-- Where the answer is to accept, the programs are equal under aspects.
use Rattle.argos_congruence.proofs.CongruenceLaws.{bisimilar_are_equal, bisimilar_traces_move}
use Rattle.bisim_formula.specs.Formulas.{related}
use Rattle.bisim_verdict.specs.Laws.{AcceptedAreEqualUnderAspects}

pub accepted_are_equal : AcceptedAreEqualUnderAspects
accepted_are_equal F P Q p_good q_good due = (bisimilar_are_equal (related P Q F) P Q p_good q_good due.0 due.1, bisimilar_traces_move (related P Q F) P Q p_good q_good due.0 due.1)
