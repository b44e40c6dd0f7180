use Rattle.c_step.specs.Views.{statement_of}
use Rattle.c_emit.proofs.EmitLemmas.{step_on, end_of, mapped_push, outs_more, outs_none}
use Rattle.c_emit.proofs.statements.push_outs.Goals as goal

pub loop-to-preserved : goal.loop-to-preserved
loop-to-preserved c = step_on _ _ _ _ _ _ (mapped_push statement_of _ _ _ c.in_ok-push.ensures.items) (outs_more c.args.outs.now c.loop-to.to c.loop-to-test.true) c.loop-to.invariant

pub returns : goal.returns
returns c = end_of _ _ _ (outs_none c.args.outs.now c.loop-to.to c.loop-to-test.false) c.loop-to.invariant
