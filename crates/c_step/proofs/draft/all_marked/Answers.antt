use Rattle.std.proofs.Common.{sym}
use Rattle.c_step.proofs.DraftSteps.{not_all}
use Rattle.c_step.proofs.draft.all_marked.Goals as goal

pub returns-then-not-contains : goal.returns-then-not-contains
returns-then-not-contains c = not_all c.args.count c.loop-number.number-counter _ c.loop-number-test.true (sym (c.if-not-contains.ensures {u = tt}))
