use Rattle.std.proofs.Common.{◌∷◌, ◌++◌, [], Some, map, sym, ap, ◌∙◌}
use Rattle.eqn_core.specs.Views.{case_of}
use Rattle.line_format.proofs.Options.{bind}
use Rattle.c_step.specs.CFile.{first_case, cases_due, c_stage}
use Rattle.c_step.specs.inner.Drafts.{draft_step, draft_assigned}
use Rattle.c_step.specs.inner.LineReading.{Scope, read_case}
use Rattle.c_step.proofs.StageReads.{read_case_is}
use Rattle.c_step.proofs.draft.Draft.first_case.Goals as goal

pub returns : goal.returns
returns c =
    let d = c.args.self.now in
    let said = c.in_ok-said.said in
    let says = ap (λ (sc : Scope). read_case sc first_case c.args.line.rest.now) (sym c.scope.ensures) ∙ ap (λ o. bind o (λ w. Some (first_case w.to w.case))) (c.in_ok-said.ensures {u = tt}) in
    let cases = ap (map case_of) ((c.in_ok-push.ensures {u = tt}).items ∙ ap (λ xs. xs ++ said.case ∷ []) c.new-cases.ensures.items) in
    record {
      line = first_case said.to (case_of said.case);
      says = says;
      due = (read_case_is (draft_step d) (draft_assigned d) c.args.line.rest.now (first_case said.to (case_of said.case)) says).1;
      stage = ap (λ cs. c_stage (cases_due said.to cs) (draft_step d) (draft_assigned d)) cases;
      sound = record { bits = c.requires.bits; words = c.requires.words; outs = c.requires.outs; few = c.requires.few };
    }
