use Rattle.std.proofs.Common.{◌-◌}
use Rattle.dd_core.specs.Arenas.{level_of}
use Rattle.dd_ops.proofs.listing.+visit.Given as goal

abbrev pub decreases-visit : goal.decreases-visit
decreases-visit l = l.arena.now.variables - level_of l.arena.now l.f.0
