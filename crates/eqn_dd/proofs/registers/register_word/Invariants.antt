use Rattle.eqn_dd.proofs.RegisterSteps.{RegisterSoFar}
use Rattle.eqn_dd.proofs.registers.register_word.Given as goal

abbrev pub invariant-loop-digit : goal.invariant-loop-digit
invariant-loop-digit l = RegisterSoFar l.fn.arena l.first l.bits l.digit l.arena l.word.items
