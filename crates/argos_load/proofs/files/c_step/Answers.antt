use Rattle.std.proofs.Common.{ap, subst, sym, ◌∙◌}
use Rattle.c_step.specs.Errors.{TellsFault}
use Rattle.c_step.specs.StepViews.{step_of}
use Rattle.argos_load.specs.Programs.{c_file, RunnableAs, a_step, not_due}
use Rattle.argos_report.specs.Texts.{refused_file}
use Rattle.argos_load.specs.Said.{Refused, said}
use Rattle.argos_load.specs.Stages.{says}
use Rattle.argos_load.proofs.files.c_step.Goals as goal

pub returns-in-Ok-clause-runnable : goal.returns-in-Ok-clause-runnable
returns-in-Ok-clause-runnable c = a_step (step_of c.in-Ok.step) (c.in-Ok.ensures {u = tt}).text

pub returns-in_ok-refusal-in-Err-NotSubset-clause-runnable : goal.returns-in_ok-refusal-in-Err-NotSubset-clause-runnable
returns-in_ok-refusal-in-Err-NotSubset-clause-runnable c =
    let k = c.args.number in
    let text = c.args.text.now in
    let fault = subst (TellsFault text) c.in-Err-NotSubset.field-0-is (c.in-Err-NotSubset.ensures {u = tt}).fault in
    let is = (c.in_ok-refusal-in-Err-NotSubset.ensures {u = tt}) ∙ ap (refused_file k) (c.deref.ensures.value ∙ (c.in_ok-c_cause-in-Err-NotSubset.ensures {u = tt})) in
    subst (λ t. RunnableAs k text c_file (says (said Refused t))) (sym is) (not_due c.in-Err-NotSubset.at fault)
