use Rattle.std.proofs.Common.{arith}
use Rattle.std.specs.Prelude.{nat_eq}
use Rattle.std.specs.HashSet.{contains}
use Rattle.c_step.specs.inner.Drafts.{draft_step, draft_assigned}
use Rattle.c_step.proofs.DraftSteps.{scope_same}
use Rattle.c_step.proofs.draft.Draft.scope.Goals as goal

pub returns : goal.returns
returns c =
    let d = c.args.self.now in
    scope_same (draft_step d) (draft_assigned d) c.len.result c.len-2.result c.len-3.result (contains nat_eq d.marks.bits) (contains nat_eq d.marks.words) c.len.ensures.count c.len-2.ensures.count (omega (arith, c.len-3.ensures, d.init.ok.0)) c.requires.bits c.requires.words
