use Rattle.std.proofs.Common.{◌+◌, ◌-◌, ◌*◌}
use Rattle.dd_core.specs.Operations.{first_level}
use Rattle.dd_core.proofs.diagrams.Arena.+make.Given as goal

abbrev pub decreases-make : goal.decreases-make
decreases-make l = 2 * (l.self.now.variables - first_level l.self.now l.choice) + 1

abbrev pub decreases-make_node : goal.decreases-make_node
decreases-make_node l = 2 * (l.self.now.variables - first_level l.self.now l.choice)
