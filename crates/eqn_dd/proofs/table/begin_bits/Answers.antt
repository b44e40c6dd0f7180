use Rattle.std.proofs.Common.{length, vec_len, arith}
use Rattle.eqn_dd.proofs.Denotations.{adds_in_turn}
use Rattle.eqn_dd.proofs.RegisterSteps.{adds_variable}
use Rattle.eqn_dd.proofs.Beginning.{inputs_more, inputs_whole}
use Rattle.eqn_dd.proofs.table.begin_bits.Goals as goal

pub returns-in_err-var-clause-adds : goal.returns-in_err-var-clause-adds
returns-in_err-var-clause-adds c = adds_in_turn c.loop-variable.variable-index 1 (length c.args.inputs.now) (omega arith) c.loop-variable.invariant.adds (adds_variable c.var.ensures.made)

pub returns-in_err-push-clause-adds : goal.returns-in_err-push-clause-adds
returns-in_err-push-clause-adds c = adds_in_turn c.loop-variable.variable-index 1 (length c.args.inputs.now) (omega arith) c.loop-variable.invariant.adds (adds_variable c.var.ensures.made)

pub loop-variable-preserved : goal.loop-variable-preserved
loop-variable-preserved c = rw c.in_ok-push.ensures.items (inputs_more c.loop-variable-test.true c.loop-variable.invariant c.in_ok-var.ensures.made)

pub returns-clause-inputs : goal.returns-clause-inputs
returns-clause-inputs c = inputs_whole (vec_len c.loop-variable.bits) (omega arith) (omega arith) (omega (arith, c.loop-variable.invariant.sized, c.loop-variable.bits.ok.0)) c.in_ok-resize.ensures.items c.loop-variable.invariant
