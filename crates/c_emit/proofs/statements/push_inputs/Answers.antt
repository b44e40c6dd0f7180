use Rattle.c_step.specs.Views.{statement_of}
use Rattle.c_emit.proofs.EmitLemmas.{step_on, mapped_push, inputs_more}
use Rattle.c_emit.proofs.statements.push_inputs.Goals as goal

pub loop-input-preserved : goal.loop-input-preserved
loop-input-preserved c = step_on _ _ _ _ _ _ (mapped_push statement_of _ _ _ c.in_ok-push.ensures.items) (inputs_more c.loop-input.input c.args.inputs c.loop-input-test.true) c.loop-input.invariant
