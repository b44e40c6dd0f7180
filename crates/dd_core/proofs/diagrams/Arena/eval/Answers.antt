use Rattle.std.proofs.Common.{sym, ap, ◌∙◌, subst}
use Rattle.dd_core.specs.Arenas.{Holds, function_of}
use Rattle.dd_core.proofs.ArenaSteps.{eval_step}
use Rattle.dd_core.proofs.diagrams.Arena.eval.Goals as goal

pub loop-node-preserved : goal.loop-node-preserved
loop-node-preserved c =
    let arena = c.args.self.now in
    let step = eval_step arena c.loop-node.at.0 c.in-Some.node c.args.x.now c.node.ensures.arena c.loop-node.invariant.held (sym c.node.ensures.node ∙ c.in-Some.is) c.requires.sized in
    record {
      held = subst (λ g. Holds arena g) (sym c.child-at.ensures) step.held;
      equal = c.loop-node.invariant.equal ∙ step.equal ∙ ap (λ g. function_of arena g c.args.x.now) (sym c.child-at.ensures);
    }
