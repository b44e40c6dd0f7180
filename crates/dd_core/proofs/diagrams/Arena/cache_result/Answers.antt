use Rattle.std.proofs.Common.{sym, subst}
use Rattle.dd_core.specs.Arenas.{ArenaView}
use Rattle.dd_core.specs.Operations.{IsResult}
use Rattle.dd_core.specs.inner.Adding.{in_turn}
use Rattle.dd_core.proofs.Caches.{results_put}
use Rattle.dd_core.proofs.diagrams.Arena.cache_result.Goals as goal

pub invariant_of-self : goal.invariant_of-self
invariant_of-self c =
    let a = c.self.inside in
    record {
      valid = c.self.invariant.valid;
      results = results_put (in_turn a.variables a.budget a.nodes) a.cache.entries.items c.put.new.self.entries.items c.args.operation c.args.f c.self.invariant.results
          (subst (λ (d : ArenaView). IsResult d c.args.operation c.args.f) (sym c.self.view_is) c.requires) c.put.ensures;
    }
