use Rattle.std.proofs.Common.{◌+◌, Bool, List, sym, ◌∙◌, subst, arith}
use Rattle.std.proofs.lemmas.Map.Views.{exact_unsigned_eq}
use Rattle.dd_ops.proofs.LeastWalk.{LeastSoFar, least_more, least_all, false_everywhere}
use Rattle.dd_ops.proofs.reading.least.Goals as goal

pub returns-then-eq : goal.returns-then-eq
returns-then-eq c = false_everywhere c.args.arena.now c.args.f.0 c.variables-variables.ensures.arena (exact_unsigned_eq c.args.f.0 0 (sym c.eq.ensures ∙ c.if-eq.true))

pub loop-k-preserved : goal.loop-k-preserved
loop-k-preserved c =
    let step = c.least_step-value in
    let more = least_more c.args.arena.now c.args.f.0 c.loop-k.k c.loop-k.at.0 step.result.0.0 c.loop-k.values.items step.result.1 c.variables-variables.ensures.arena (omega (arith, c.loop-k-test.true, c.variables-variables.ensures.count)) c.loop-k.invariant step.ensures.next step.ensures.forced step.ensures.possible in
    subst (λ (xs : List Bool). LeastSoFar c.args.arena.now c.args.f.0 (c.loop-k.k + 1) xs step.result.0.0) (sym c.in_ok-push.ensures.items) more

pub returns : goal.returns
returns c = least_all c.args.arena.now c.args.f.0 c.loop-k.k c.loop-k.at.0 c.loop-k.values.items c.variables-variables.ensures.arena (omega (arith, c.loop-k-test.false, c.variables-variables.ensures.count)) (omega (arith, c.loop-k.auto.k-end, c.variables-variables.ensures.count)) c.loop-k.invariant
