use Rattle.std.proofs.Common.{◌∷◌, [], Some, map, sym, ap, ◌∙◌}
use Rattle.std.specs.Prelude.{nat_eq}
use Rattle.std.proofs.lemmas.List.{map-append}
use Rattle.argos_base.proofs.Bools.{and_both}
use Rattle.eqn_core.specs.Views.{case_of}
use Rattle.line_format.proofs.Options.{bind}
use Rattle.c_step.specs.CFile.{further_case, cases_due, c_stage}
use Rattle.c_step.specs.inner.Drafts.{draft_step, draft_assigned}
use Rattle.c_step.specs.inner.LineReading.{Scope, case_parts}
use Rattle.c_step.proofs.DraftSteps.{same_word}
use Rattle.c_step.proofs.StageReads.{case_parts_is}
use Rattle.c_step.proofs.draft.Draft.further_case.Goals as goal

pub returns : goal.returns
returns c =
    let d = c.args.self.now in
    let said = c.in_ok-said.said in
    let parts = ap (λ (sc : Scope). case_parts sc c.args.line.rest.now) (sym c.scope.ensures) ∙ (c.in_ok-said.ensures {u = tt}) in
    let cases = ap (map case_of) (c.in_ok-push.ensures {u = tt}).items ∙ map-append case_of d.cases.items (said.case ∷ []) in
    record {
      line = further_case said.to (case_of said.case);
      says = ap (λ o. bind o (λ w. Some (further_case w.to w.case))) parts;
      due = and_both (nat_eq c.args.word said.to) _ (same_word c.args.word said.to c.if-said-word.false) (case_parts_is (draft_step d) (draft_assigned d) c.args.line.rest.now _ parts).2;
      stage = ap (λ cs. c_stage (cases_due said.to cs) (draft_step d) (draft_assigned d)) cases;
      sound = record { bits = c.requires.bits; words = c.requires.words; outs = c.requires.outs; few = c.requires.few };
    }
