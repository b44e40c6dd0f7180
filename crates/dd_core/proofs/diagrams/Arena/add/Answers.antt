use Rattle.std.proofs.Common.{◌++◌, ◌∷◌, [], ℕ, List, ap, sym, ◌∙◌, subst}
use Rattle.dd_core.specs.declared.nodes.Node.{Node}
use Rattle.dd_core.specs.Diagrams.{node_count}
use Rattle.dd_core.specs.Arenas.{ArenaView}
use Rattle.dd_core.specs.inner.Adding.{IsFresh, in_turn, AddsNode}
use Rattle.dd_core.specs.inner.Caches.{IsSound}
use Rattle.dd_core.proofs.Caches.{sound_more, table_room}
use Rattle.dd_core.proofs.diagrams.Arena.add.Goals as goal
use Rattle.dd_core.proofs.diagrams.Arena.add.Goals.{In_ok-push}

pub push-requires : goal.push-requires
push-requires c =
    let a = c.self.inside in
    record {
      room = table_room a.variables a.budget a.nodes c.self.invariant.valid
          (λ e. c.if-used-self.false (c.used-used.ensures.count ∙ ap (λ (d : ArenaView). node_count d.nodes) (sym c.self.view_is) ∙ e));
    }

-- the arena with the node behind the others
more : (c : In_ok-push) → IsSound (in_turn c.self.inside.variables c.self.inside.budget (c.self.inside.nodes ++ c.args.node ∷ [])) c.self.inside.cache.entries.items
    × AddsNode (in_turn c.self.inside.variables c.self.inside.budget c.self.inside.nodes) (in_turn c.self.inside.variables c.self.inside.budget (c.self.inside.nodes ++ c.args.node ∷ [])) c.args.node (node_count (in_turn c.self.inside.variables c.self.inside.budget c.self.inside.nodes).nodes)
more c =
    let a = c.self.inside in
    sound_more a.variables a.budget a.nodes a.cache.entries.items c.args.node c.self.invariant (subst (λ (d : ArenaView). IsFresh d.variables d.nodes c.args.node) (sym c.self.view_is) c.requires.fresh)
    (λ e. c.if-used-self.false (c.used-used.ensures.count ∙ ap (λ (d : ArenaView). node_count d.nodes) (sym c.self.view_is) ∙ e))

pub invariant_of-self-2 : goal.invariant_of-self-2
invariant_of-self-2 c =
    let a = c.self.inside in
    subst (λ (xs : List Node). IsSound (in_turn a.variables a.budget xs) a.cache.entries.items) (sym c.in_ok-push.ensures.ok) (more c).0

pub returns-clause-ok : goal.returns-clause-ok
returns-clause-ok c =
    let a = c.self.inside in let n = c.args.node in
    let of_items = subst (λ (xs : List Node). AddsNode (in_turn a.variables a.budget a.nodes) (in_turn a.variables a.budget xs) n (node_count (in_turn a.variables a.budget a.nodes).nodes)) (sym c.in_ok-push.ensures.ok) (more c).1 in
    let of_args = subst (λ (d : ArenaView). AddsNode d (in_turn a.variables a.budget c.push.new.self) n (node_count d.nodes)) c.self.view_is of_items in
    subst (λ (f : ℕ). AddsNode c.args.self.now (in_turn a.variables a.budget c.push.new.self) n f) (sym c.used-used.ensures.count) of_args
