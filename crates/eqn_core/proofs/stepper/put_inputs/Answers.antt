use Rattle.std.proofs.Common.{false, set, ap, ◌∙◌, arith}
use Rattle.eqn_core.proofs.Walks.{write_more}
use Rattle.eqn_core.proofs.stepper.put_inputs.Goals as goal

pub loop-k-preserved : goal.loop-k-preserved
loop-k-preserved c =
    let k = c.loop-k.k in
    ap (λ z. set z k c.get.result) c.loop-k.invariant ∙ write_more c.args.input.now c.args.bits.now k c.get.result false (omega arith) c.requires c.get.ensures
