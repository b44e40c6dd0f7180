use Rattle.std.proofs.Common.{◌≡◌, ◌∷◌, ◌++◌, [], map, sym, ap, ◌∙◌}
use Rattle.std.specs.Prelude.{nat_eq}
use Rattle.std.specs.HashSet.{contains}
use Rattle.argos_base.specs.SignalSets.{lists}
use Rattle.c_step.specs.CFile.{out_line}
use Rattle.c_step.specs.CStep.{set_out, CStat, Assigned}
use Rattle.c_step.specs.Views.{statement_of}
use Rattle.c_step.specs.inner.Drafts.{draft_step, draft_assigned}
use Rattle.c_step.specs.inner.LineReading.{Scope, read_out}
use Rattle.c_step.proofs.DraftSteps.{marked_more, views_pushed, assigned_pushed, stage_pushed}
use Rattle.c_step.proofs.StageReads.{read_out_is}
use Rattle.c_step.proofs.draft.Draft.assign_output.Goals as goal

pub returns : goal.returns
returns c =
    let d = c.args.self.now in
    let said = c.in_ok-said.said in
    let x : CStat = set_out said.to said.bit in
    let pushed : map statement_of c.push.new.self.items ≡ map statement_of d.stats.items ++ x ∷ [] = views_pushed d.stats.items c.push.new.self.items _ (c.in_ok-push.ensures {u = tt}).items in
    let says = ap (λ (sc : Scope). read_out sc c.args.line.rest.now) (sym c.scope.ensures) ∙ (c.in_ok-said.ensures {u = tt}) in
    let after = assigned_pushed (map statement_of d.stats.items) (map statement_of c.push.new.self.items) x pushed in
    record {
      line = out_line said.to said.bit;
      says = says;
      due = (read_out_is (draft_step d) (draft_assigned d) c.args.line.rest.now (out_line said.to said.bit) says).1;
      stage = stage_pushed (draft_step d) (map statement_of c.push.new.self.items) x pushed;
      sound = record {
        bits = c.requires.bits ∙ sym (ap (λ (a : Assigned). lists a.bits) after);
        words = c.requires.words ∙ sym (ap (λ (a : Assigned). lists a.words) after);
        outs = marked_more (contains nat_eq d.marks.outs) _ said.to (draft_assigned d).outs (λ k. c.in_ok-mark.ensures {u = tt} k) c.requires.outs ∙ sym (ap (λ (a : Assigned). lists a.outs) after);
        few = c.requires.few;
      };
    }
