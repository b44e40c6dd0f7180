use Rattle.std.proofs.Common.{◌≡◌, ◌*◌}
use Rattle.dd_core.specs.Arenas.{Holds}
use Rattle.dd_ops.proofs.tests.pairwise_equality.Given as goal

abbrev pub invariant-loop-k : goal.invariant-loop-k
invariant-loop-k l = record {
  variables : l.arena.variables ≡ 2 * l.count;
  held : Holds l.arena l.equality.0;
}
