use Rattle.argos_core.specs.Views.{shapes_of}
use Rattle.bisim_formula.specs.Formulas.{all_related, any_related}
use Rattle.bisim_check.proofs.Operands.{OperandsSoFar}
use Rattle.bisim_check.proofs.formula.+formula.Given as goal

abbrev pub invariant-all_node-loop-count : goal.invariant-all_node-loop-count
invariant-all_node-loop-count l = OperandsSoFar (all_related (shapes_of l.left) (shapes_of l.right)) l.fn.arena l.lefts l.rights l.operands l.count l.arena l.met.0

abbrev pub decreases-all_node-loop-count : goal.decreases-all_node-loop-count
decreases-all_node-loop-count l = l.count

abbrev pub invariant-any_node-loop-count : goal.invariant-any_node-loop-count
invariant-any_node-loop-count l = OperandsSoFar (any_related (shapes_of l.left) (shapes_of l.right)) l.fn.arena l.lefts l.rights l.operands l.count l.arena l.met.0

abbrev pub decreases-any_node-loop-count : goal.decreases-any_node-loop-count
decreases-any_node-loop-count l = l.count
