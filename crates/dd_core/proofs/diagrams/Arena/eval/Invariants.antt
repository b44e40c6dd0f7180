use Rattle.std.proofs.Common.{◌≡◌, ◌-◌}
use Rattle.dd_core.specs.Arenas.{Holds, function_of, level_of}
use Rattle.dd_core.proofs.diagrams.Arena.eval.Given as goal

abbrev pub invariant-loop-node : goal.invariant-loop-node
invariant-loop-node l = record {
  held : Holds l.self l.at.0;
  equal : function_of l.self l.fn.f.0 l.x ≡ function_of l.self l.at.0 l.x;
}

abbrev pub decreases-loop-node : goal.decreases-loop-node
decreases-loop-node l = l.self.variables - level_of l.self l.at.0
