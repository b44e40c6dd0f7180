use Rattle.std.proofs.Common.{ap, subst, ◌∙◌}
use Rattle.argos_core.specs.ModuleViews.{module_of}
use Rattle.argos_scope.specs.TextFaults.{TellsWhy}
use Rattle.argos_load.specs.Programs.{means}
use Rattle.argos_report.specs.Texts.{refused_file}
use Rattle.argos_load.proofs.CauseTexts.{says_fault, says_scope}
use Rattle.argos_load.proofs.files.meant.Goals as goal

pub returns-in-Ok : goal.returns-in-Ok
returns-in-Ok c = means (module_of c.in-Ok.program) (c.in-Ok.ensures {u = tt}).means

pub returns-in_ok-refusal-in-Err-Parse : goal.returns-in_ok-refusal-in-Err-Parse
returns-in_ok-refusal-in-Err-Parse c =
    let text = c.args.text.now in
    let why = subst (TellsWhy text) c.in-Err-Parse.field-0-is (c.in-Err-Parse.ensures {u = tt}).why in
    says_fault c.args.number text c.in-Err-Parse.error c.in_ok-fault_cause-in-Err-Parse.field-0 c.in_ok-refusal-in-Err-Parse.field-0.items why (c.in_ok-fault_cause-in-Err-Parse.ensures {u = tt})
    (c.in_ok-refusal-in-Err-Parse.ensures {u = tt} ∙ ap (refused_file c.args.number) c.deref.ensures.value)

pub returns-in_ok-refusal-in-Err-Scope : goal.returns-in_ok-refusal-in-Err-Scope
returns-in_ok-refusal-in-Err-Scope c =
    let text = c.args.text.now in
    let why = subst (TellsWhy text) c.in-Err-Scope.field-0-is (c.in-Err-Scope.ensures {u = tt}).why in
    says_scope c.args.number text c.in-Err-Scope.error c.in_ok-scope_cause-in-Err-Scope.field-0 c.in_ok-refusal-in-Err-Scope.field-0.items why (c.in_ok-scope_cause-in-Err-Scope.ensures {u = tt})
    (c.in_ok-refusal-in-Err-Scope.ensures {u = tt} ∙ ap (refused_file c.args.number) c.deref-in-Err-Scope.ensures.value)
