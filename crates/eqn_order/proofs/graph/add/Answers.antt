use Rattle.std.proofs.Common.{ℕ, [], ◌∷◌, ◌++◌, ap, ◌∙◌}
use Rattle.std.specs.Prelude.{Vec}
use Rattle.std.specs.declared.alloc.Global.{Global}
use Rattle.eqn_order.proofs.Building.{add_to}
use Rattle.eqn_order.proofs.graph.add.Goals as goal

pub returns : goal.returns
returns c = add_to c.args.rows.now.items c.args.place c.args.line c.index_mut.result.now c.push.new.self c.requires (c.in_ok-push.ensures.items ∙ ap (λ (r : Vec ℕ Global). r.items ++ c.args.line ∷ []) c.index_mut.ensures.value)
