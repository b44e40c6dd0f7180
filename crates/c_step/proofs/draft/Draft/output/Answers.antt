use Rattle.std.proofs.Common.{Some, ap, ◌∙◌}
use Rattle.line_format.proofs.Options.{bind}
use Rattle.c_step.specs.CFile.{output_comment, outputs_due, c_stage}
use Rattle.c_step.specs.inner.Drafts.{draft_step, draft_assigned}
use Rattle.c_step.proofs.DraftSteps.{output_due}
use Rattle.c_step.proofs.draft.Draft.output.Goals as goal

pub returns-clause-inputs : goal.returns-clause-inputs
returns-clause-inputs c =
    let d = c.args.self.now in
    let name = c.in_ok-name.name in
    let said = c.in_ok-name.ensures {u = tt} in
    let added = c.in_ok-add_name.ensures {u = tt} in
    record {
      line = output_comment name;
      says = ap (λ o. bind o (λ n. Some (output_comment n))) said.name;
      due = output_due (draft_step d) (draft_assigned d) name said.spelled ∙ added.0;
      stage = ap (λ outs. c_stage outputs_due (record (draft_step d) { names = record { inputs = d.inputs; outputs = outs } }) (draft_assigned d)) added.1;
      sound = record { bits = c.requires.bits; words = c.requires.words; outs = c.requires.outs; few = c.requires.few };
    }

pub returns-clause-outputs : goal.returns-clause-outputs
returns-clause-outputs c =
    let d = c.args.self.now in
    let name = c.in_ok-name.name in
    let said = c.in_ok-name.ensures {u = tt} in
    let added = c.in_ok-add_name.ensures {u = tt} in
    record {
      line = output_comment name;
      says = ap (λ o. bind o (λ n. Some (output_comment n))) said.name;
      due = output_due (draft_step d) (draft_assigned d) name said.spelled ∙ added.0;
      stage = ap (λ outs. c_stage outputs_due (record (draft_step d) { names = record { inputs = d.inputs; outputs = outs } }) (draft_assigned d)) added.1;
      sound = record { bits = c.requires.bits; words = c.requires.words; outs = c.requires.outs; few = c.requires.few };
    }
