use Rattle.eqn_dd.proofs.Beginning.{InputsSoFar}
use Rattle.eqn_dd.proofs.table.begin_bits.Given as goal

abbrev pub invariant-loop-variable : goal.invariant-loop-variable
invariant-loop-variable l = InputsSoFar l.fn.arena l.inputs l.variable-index l.arena l.bits.items
