use Rattle.std.proofs.Common.{map}
use Rattle.eqn_core.specs.Views.{literal_of}
use Rattle.eqn_dd.specs.inner.Tables.{view_of}
use Rattle.eqn_dd.proofs.TableSteps.{AllSoFar}
use Rattle.eqn_dd.proofs.lines.all_of.Given as goal

abbrev pub invariant-loop-left : goal.invariant-loop-left
invariant-loop-left l = AllSoFar l.fn.arena (view_of l.table) (map literal_of l.literals) l.left l.arena l.met.0

abbrev pub decreases-loop-left : goal.decreases-loop-left
decreases-loop-left l = l.left
