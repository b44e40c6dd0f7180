use Rattle.std.proofs.Common.{◌≡◌, ◌∷◌, ◌++◌, [], Some, map, sym, ap, ◌∙◌}
use Rattle.std.specs.Prelude.{nat_eq}
use Rattle.std.specs.HashSet.{contains}
use Rattle.argos_base.specs.SignalSets.{lists}
use Rattle.argos_base.proofs.Bools.{and_both}
use Rattle.eqn_core.specs.Views.{choice_of, case_of}
use Rattle.line_format.proofs.Options.{bind}
use Rattle.c_step.specs.CStep.{set_word, CStat, Assigned}
use Rattle.c_step.specs.CFile.{last_case}
use Rattle.c_step.specs.Views.{statement_of}
use Rattle.c_step.specs.inner.Drafts.{draft_step, draft_assigned}
use Rattle.c_step.specs.inner.LineReading.{Scope, word_parts}
use Rattle.c_step.proofs.DraftSteps.{same_word, marked_more, views_pushed, assigned_pushed, stage_pushed}
use Rattle.c_step.proofs.StageReads.{word_parts_is}
use Rattle.c_step.proofs.draft.Draft.last_case.Goals as goal

pub returns : goal.returns
returns c =
    let d = c.args.self.now in
    let said = c.in_ok-said.said in
    let word = said.to in
    let x : CStat = set_word word (map case_of d.cases.items) (choice_of said.pick) in
    let parts = ap (λ (sc : Scope). word_parts sc c.args.line.rest.now) (sym c.scope.ensures) ∙ (c.in_ok-said.ensures {u = tt}) in
    let pushed : map statement_of c.push.new.self.items ≡ map statement_of d.stats.items ++ x ∷ [] = views_pushed d.stats.items c.push.new.self.items _ (c.in_ok-push.ensures {u = tt}).items ∙ ap (λ v. map statement_of d.stats.items ++ set_word said.to (map case_of v.items) (choice_of said.pick) ∷ []) c.replace-cases.ensures.value in
    let after = assigned_pushed (map statement_of d.stats.items) (map statement_of c.push.new.self.items) x pushed in
    record {
      line = last_case word (choice_of said.pick);
      says = ap (λ o. bind o (λ w. Some (last_case w.to w.pick))) parts;
      due = and_both (nat_eq c.args.word said.to) _ (same_word c.args.word said.to c.if-said-word.false) (word_parts_is (draft_step d) (draft_assigned d) c.args.line.rest.now _ parts).2;
      stage = stage_pushed (draft_step d) (map statement_of c.push.new.self.items) x pushed;
      sound = record {
        bits = c.requires.bits ∙ sym (ap (λ (a : Assigned). lists a.bits) after);
        words = marked_more (contains nat_eq d.marks.words) _ word (draft_assigned d).words (λ k. c.in_ok-mark.ensures {u = tt} k) c.requires.words ∙ sym (ap (λ (a : Assigned). lists a.words) after);
        outs = c.requires.outs ∙ sym (ap (λ (a : Assigned). lists a.outs) after);
        few = c.requires.few;
      };
    }
