use Rattle.std.proofs.Common.{◌+◌, ◌-◌, ◌*◌}
use Rattle.dd_core.specs.Arenas.{level_of}
use Rattle.dd_ops.proofs.restricting.+restrict.Given as goal

abbrev pub decreases-restrict_from : goal.decreases-restrict_from
decreases-restrict_from l = 2 * (l.arena.now.variables - level_of l.arena.now l.asked.f.0) + 1

abbrev pub decreases-restrict_node : goal.decreases-restrict_node
decreases-restrict_node l = 2 * (l.arena.now.variables - l.node.variable)
