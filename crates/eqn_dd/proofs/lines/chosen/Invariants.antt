use Rattle.std.proofs.Common.{map}
use Rattle.eqn_core.specs.Views.{case_of, choice_of}
use Rattle.eqn_dd.specs.inner.Tables.{view_of}
use Rattle.eqn_dd.proofs.TableWords.{CasesSoFar}
use Rattle.eqn_dd.proofs.lines.chosen.Given as goal

abbrev pub invariant-loop-left : goal.invariant-loop-left
invariant-loop-left l = CasesSoFar l.fn.arena (view_of l.table) (map case_of l.cases) (choice_of l.fn.other) l.left l.arena l.word.items

abbrev pub decreases-loop-left : goal.decreases-loop-left
decreases-loop-left l = l.left
