use Rattle.std.proofs.Common.{refl, sym, arith}
use Rattle.argos_base.specs.declared.signals.SigId.{SigId}
use Rattle.c_step.proofs.DraftSteps.{among_others, stands_already, is_new}
use Rattle.c_step.proofs.draft.add_name.Goals as goal

pub returns-then-is_some : goal.returns-then-is_some
returns-then-is_some c = (refl, among_others (λ (k : SigId). k.0) c.find.result c.args.names.now c.args.others.now c.args.name c.bytes.result.now c.bytes.ensures.bytes c.find.ensures (sym (c.if-is_some.ensures {u = tt})))

pub returns-in-Ok : goal.returns-in-Ok
returns-in-Ok c = (
  is_new (λ (k : SigId). k.0) c.find.result c.args.names.now c.args.others.now c.args.name c.bytes.result.now c.len.result c.bytes.ensures.bytes c.find.ensures (sym (c.if-is_some.ensures {u = tt})) c.len.ensures.count (omega (arith, c.if-len-ge-SIGNAL_LIMIT.false)) (c.in-Ok.ensures {u = tt}).0,
  (c.in-Ok.ensures {u = tt}).2,
)

pub returns-in-Err-Duplicate : goal.returns-in-Err-Duplicate
returns-in-Err-Duplicate c = (refl, stands_already c.args.names.now c.args.others.now c.args.name c.in-Err-Duplicate.field-0-0.0 (rw c.in-Err-Duplicate.field-0-is at (c.in-Err-Duplicate.ensures {u = tt})).0)
