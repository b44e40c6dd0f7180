use Rattle.std.proofs.Common.{◌≡◌, Option, Some, None, false, sym, ◌∙◌, refl}
use Rattle.std.specs.Option.{is_some}
use Rattle.std.proofs.lemmas.Bool.{false≢true}
use Rattle.std.proofs.lemmas.Result.{err_from_is_err_and}
use Rattle.dd_core.specs.declared.nodes.Node.{Node}
use Rattle.dd_ops.proofs.Quantifiers.{exists_constant, so_far_none, so_far_more, so_far_all, so_far_fails}
use Rattle.dd_ops.proofs.quantifying.exists.Goals as goal

none_from : (o : Option Node) → is_some o ≡ false → o ≡ None
none_from None e = refl
none_from (Some n) e = absurd (false≢true (sym e))

pub returns-then-is_none : goal.returns-then-is_none
returns-then-is_none c =
    let none = none_from c.node.result c.if-is_none.ensures in
    exists_constant _ c.args.vars.now c.node.ensures.arena c.requires.held (sym c.node.ensures.node ∙ none)

pub loop-var-init : goal.loop-var-init
loop-var-init c = so_far_none c.args.arena.now c.args.f.0 c.args.vars.now c.node.ensures.arena c.requires.held

pub returns-in_err-g : goal.returns-in_err-g
returns-in_err-g c =
    let p = err_from_is_err_and c.from_residual.result c.from_residual.ensures.1 in
    rw (p.1, p.2) (so_far_fails c.loop-var-test.true c.loop-var.invariant c.in_err-g.ensures)

pub loop-var-preserved : goal.loop-var-preserved
loop-var-preserved c = so_far_more c.loop-var-test.true (c.requires.variables c.loop-var.var-index 0 c.loop-var-test.true) c.loop-var.invariant c.in_ok-g.ensures

pub returns : goal.returns
returns c = so_far_all c.loop-var-test.false c.loop-var.auto.var-index-end c.loop-var.invariant
