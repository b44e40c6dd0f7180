use Rattle.std.proofs.Common.{◌≢◌, ℕ, Some, IfNone, subst}
use Rattle.dd_core.specs.Diagrams.{node_at}
use Rattle.dd_core.specs.Arenas.{ArenaView}
use Rattle.dd_core.proofs.diagrams.Arena.find.Goals as goal

pub returns-clause-none : goal.returns-clause-none
returns-clause-none c = subst (λ (d : ArenaView). IfNone c.find.result ((f : ℕ) → node_at d.nodes f ≢ Some c.args.node)) c.self.view_is c.find.ensures.none
