use Rattle.std.proofs.Common.{Err, ap, subst, ◌∙◌}
use Rattle.argos_core.specs.ModuleViews.{module_of}
use Rattle.argos_load.specs.Calls.{call}
use Rattle.argos_load.specs.Giving.{comparison_of}
use Rattle.argos_load.specs.Said.{Refused, said}
use Rattle.argos_report.specs.Reports.{budget_text, variables_text}
use Rattle.bisim_check.specs.Found as checked
use Rattle.argos_top.specs.Equivalence.{said_of, answered, too_wide}
use Rattle.argos_top.specs.inner.Comparing.{told, stopped}
use Rattle.argos_top.specs.inner.Endings.{status_of, Pushes}
use Rattle.argos_top.specs.declared.status.Status.TheVariants as status
use Rattle.argos_top.proofs.Equivalences.{comparison_stopped, job_spent, pushes_budget, pushes_of, pushes_variables}
use Rattle.argos_top.proofs.equiv.compare.Goals as goal

pub returns-in-Ok-found_text : goal.returns-in-Ok-found_text
returns-in-Ok-found_text g c =
    let x = comparison_of c.args.compared.now in
    let a = checked.answer_of c.in-Ok.found in
    let sink = call g.W.Sink.held g.W.Sink.faults c.args.out.now c.report.new.out in
    let h = c.in-Ok.ensures {u = tt} in
    let P = module_of c.module.result.now in
    let Q = module_of c.module-in-Ok.result.now in
    let bytes = c.deref.ensures.value ∙ c.in-Ok-found_text.ensures {u = tt} in
    let here : Pushes (said_of P Q a).bytes (status_of (said_of P Q a).answer) sink c.report.result =
    subst (λ s. Pushes (said_of P Q a).bytes s sink c.report.result) (c.found_status.ensures P Q) (subst (λ b. Pushes b c.found_status.result sink c.report.result) bytes c.report.ensures)
    in
    told (said_of x.left x.right a) (answered a h.answer h.fits) (pushes_of P x.left Q x.right a sink c.report.result (ap module_of c.module.ensures) (ap module_of c.module-in-Ok.ensures) here)

pub returns-in-Err-Variables : goal.returns-in-Err-Variables
returns-in-Err-Variables g c =
    let n = c.in-Err-Variables.count in
    let sink = call g.W.Sink.held g.W.Sink.faults c.args.out.now c.report_number.new.out in
    let h = c.equiv.ensures.variables n (c.in-Err-Variables.is ∙ ap Err c.in-Err-Variables.field-0-is) in
    told (said Refused (variables_text 3 n)) (too_wide n h.2 h.0 h.1)
    (pushes_variables n c.from.result status.Refused sink c.report_number.result (c.from.ensures ∙ c.in-Err-Variables.count-is) c.report_number.ensures)

pub returns-in-Err-Budget : goal.returns-in-Err-Budget
returns-in-Err-Budget g c =
    let x = comparison_of c.args.compared.now in
    let nodes = c.args.nodes in
    let arena = c.in-Err-Budget.arena in
    let left = c.args.compared.now.left in
    let right = c.args.compared.now.right in
    let sink = call g.W.Sink.held g.W.Sink.faults c.args.out.now c.report_number-in-Err-Budget.new.out in
    let stop = c.equiv.ensures.budget arena (c.in-Err-Budget.is ∙ ap Err c.in-Err-Budget.field-0-is) in
    stopped arena (budget_text nodes) (job_spent x.formula x.left x.right left.ordered right.ordered nodes arena stop)
    (comparison_stopped x left.ordered right.ordered left.lines right.lines nodes arena left.judged right.judged stop)
    (subst (λ a. Pushes (budget_text nodes) (status.Budget a) sink c.report_number-in-Err-Budget.result) c.in-Err-Budget.arena-is
    (pushes_budget nodes c.from-in-Err-Budget.result _ sink c.report_number-in-Err-Budget.result c.from-in-Err-Budget.ensures c.report_number-in-Err-Budget.ensures))
