use Rattle.std.proofs.Common.{ap, map}
use Rattle.eqn_core.specs.Views.{case_of}
use Rattle.c_step.specs.Views.{statement_of}
use Rattle.c_emit.proofs.EmitLemmas.{step_on, end_of, mapped_push, registers_more, registers_none}
use Rattle.c_emit.proofs.statements.push_registers.Goals as goal

pub loop-to-preserved : goal.loop-to-preserved
loop-to-preserved c = step_on _ _ _ _ _ _ (mapped_push statement_of _ _ _ c.in_ok-push.ensures.items) (registers_more c.args.next.now c.loop-to.to _ (ap (map case_of) c.new.ensures.items) c.loop-to-test.true) c.loop-to.invariant

pub returns : goal.returns
returns c = end_of _ _ _ (registers_none c.args.next.now c.loop-to.to c.loop-to-test.false) c.loop-to.invariant
