use Rattle.std.proofs.Common.{Some, refl, true, false}
use Rattle.std.specs.Prelude.{nat_eq, codes, length, bytes_eq}
use Rattle.std.specs.HashSet.{contains}
use Rattle.line_format.proofs.Options.{only_if_true}
use Rattle.c_step.specs.CFile.{closing, statements_due}
use Rattle.c_step.specs.inner.Drafts.{draft_step, draft_assigned}
use Rattle.c_step.specs.inner.Pieces.{last}
use Rattle.c_step.proofs.DraftSteps.{listed_if, due_none}
use Rattle.c_step.proofs.draft.Draft.end.Goals as goal

pub returns-then-not-all_marked : goal.returns-then-not-all_marked
returns-then-not-all_marked c =
    let d = c.args.self.now in
    let says = only_if_true (bytes_eq c.args.line.rest.now (codes "}")) (Some closing) (c.in_ok-last.ensures {u = tt}).whole in
    let not_due = listed_if c.len.result (length d.outputs) (contains nat_eq d.marks.outs) (draft_assigned d).outs false c.len.ensures.count c.requires.outs (c.if-not-all_marked.ensures {u = tt}) in
    (refl, due_none statements_due (draft_step d) (draft_assigned d) (last (codes "}") closing c.args.line.rest.now) closing says not_due)

pub returns : goal.returns
returns c =
    let d = c.args.self.now in
    let says = only_if_true (bytes_eq c.args.line.rest.now (codes "}")) (Some closing) (c.in_ok-last.ensures {u = tt}).whole in
    record {
      line = closing;
      says = says;
      due = listed_if c.len.result (length d.outputs) (contains nat_eq d.marks.outs) (draft_assigned d).outs true c.len.ensures.count c.requires.outs (c.if-not-all_marked.ensures {u = tt});
      stage = refl;
      sound = record { bits = c.requires.bits; words = c.requires.words; outs = c.requires.outs; few = c.requires.few };
    }
