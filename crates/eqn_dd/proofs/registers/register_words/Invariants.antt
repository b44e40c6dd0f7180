use Rattle.std.proofs.Common.{map}
use Rattle.eqn_dd.proofs.RegisterSteps.{RegistersSoFar}
use Rattle.eqn_dd.proofs.registers.register_words.Given as goal

abbrev pub invariant-loop-first : goal.invariant-loop-first
invariant-loop-first l = RegistersSoFar l.fn.arena l.regs l.first-index l.arena (map (λ w. w.items) l.words.items)
