use Rattle.std.proofs.Common.{◌≡◌, Some, ◌∷◌, ◌++◌, [], map, sym, ap, ◌∙◌}
use Rattle.std.specs.Prelude.{nat_eq}
use Rattle.std.specs.HashSet.{contains}
use Rattle.argos_base.specs.SignalSets.{lists}
use Rattle.eqn_core.specs.Views.{choice_of, case_of}
use Rattle.c_step.specs.CFile.{word_line}
use Rattle.c_step.specs.CStep.{set_word, CStat, Assigned}
use Rattle.c_step.specs.Views.{statement_of}
use Rattle.c_step.specs.inner.Drafts.{draft_step, draft_assigned}
use Rattle.c_step.specs.inner.LineReading.{Scope, read_word}
use Rattle.line_format.proofs.Options.{bind}
use Rattle.c_step.proofs.DraftSteps.{marked_more, views_pushed, assigned_pushed, stage_pushed}
use Rattle.c_step.proofs.StageReads.{read_word_is}
use Rattle.c_step.proofs.draft.Draft.word.Goals as goal

pub returns : goal.returns
returns c =
    let d = c.args.self.now in
    let said = c.in_ok-said.said in
    let x : CStat = set_word said.to [] (choice_of said.pick) in
    let pushed : map statement_of c.push.new.self.items ≡ map statement_of d.stats.items ++ x ∷ [] = views_pushed d.stats.items c.push.new.self.items _ (c.in_ok-push.ensures {u = tt}).items ∙ ap (λ cs. map statement_of d.stats.items ++ set_word said.to (map case_of cs) (choice_of said.pick) ∷ []) c.new.ensures.items in
    let says = ap (λ (sc : Scope). read_word sc word_line c.args.line.rest.now) (sym c.scope.ensures) ∙ ap (λ o. bind o (λ w. Some (word_line w.to w.pick))) (c.in_ok-said.ensures {u = tt}) in
    let after = assigned_pushed (map statement_of d.stats.items) (map statement_of c.push.new.self.items) x pushed in
    record {
      line = word_line said.to (choice_of said.pick);
      says = says;
      due = (read_word_is (draft_step d) (draft_assigned d) c.args.line.rest.now (word_line said.to (choice_of said.pick)) says).1;
      stage = stage_pushed (draft_step d) (map statement_of c.push.new.self.items) x pushed;
      sound = record {
        bits = c.requires.bits ∙ sym (ap (λ (a : Assigned). lists a.bits) after);
        words = marked_more (contains nat_eq d.marks.words) _ said.to (draft_assigned d).words (λ k. c.in_ok-mark.ensures {u = tt} k) c.requires.words ∙ sym (ap (λ (a : Assigned). lists a.words) after);
        outs = c.requires.outs ∙ sym (ap (λ (a : Assigned). lists a.outs) after);
        few = c.requires.few;
      };
    }
