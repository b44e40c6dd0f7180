use Rattle.std.proofs.Common.{subst, sym}
use Rattle.argos_core.specs.ModuleViews.{module_of}
use Rattle.argos_load.specs.Programs.{AcceptedOf, overlap, bad_case, too_wide}
use Rattle.argos_load.specs.Said.{No, Refused, said}
use Rattle.argos_load.specs.Stages.{says}
use Rattle.argos_report.specs.Reports.{IsReport}
use Rattle.argos_verdict.specs.Answers.{IsRefused}
use Rattle.argos_load.proofs.files.refused.Goals as goal

pub returns-in-NoReaction : goal.returns-in-NoReaction
returns-in-NoReaction c =
    let k = c.args.number in
    let p = module_of c.args.program.now in
    let text = subst (λ e. IsReport k p c.args.nodes e c.in_ok-text.text.items) c.in-NoReaction.is c.in_ok-text.ensures in
    subst (λ t. AcceptedOf k p (says (said No t))) (sym text) (bad_case _ _ _ (subst (IsRefused p c.args.nodes) c.in-NoReaction.is c.requires))

pub returns-in-Several : goal.returns-in-Several
returns-in-Several c =
    let k = c.args.number in
    let p = module_of c.args.program.now in
    let text = subst (λ e. IsReport k p c.args.nodes e c.in_ok-text.text.items) c.in-Several.is c.in_ok-text.ensures in
    subst (λ t. AcceptedOf k p (says (said No t))) (sym text) (bad_case _ _ _ (subst (IsRefused p c.args.nodes) c.in-Several.is c.requires))

pub returns-in-Overlap : goal.returns-in-Overlap
returns-in-Overlap c =
    let k = c.args.number in
    let p = module_of c.args.program.now in
    let text = subst (λ e. IsReport k p c.args.nodes e c.in_ok-text.text.items) c.in-Overlap.is c.in_ok-text.ensures in
    subst (λ t. AcceptedOf k p (says (said Refused t))) (sym text) (overlap _ _ _ _ _ (subst (IsRefused p c.args.nodes) c.in-Overlap.is c.requires))

pub returns-in-Variables : goal.returns-in-Variables
returns-in-Variables c =
    let k = c.args.number in
    let p = module_of c.args.program.now in
    let text = subst (λ e. IsReport k p c.args.nodes e c.in_ok-text.text.items) c.in-Variables.is c.in_ok-text.ensures in
    subst (λ t. AcceptedOf k p (says (said Refused t))) (sym text) (too_wide _ (subst (IsRefused p c.args.nodes) c.in-Variables.is c.requires))
