use Rattle.std.proofs.Common.{ap, refl, subst, sym, ◌∙◌}
use Rattle.argos_compile.specs.AspectViews.{aspect_view}
use Rattle.argos_core.specs.ModuleViews.{module_of}
use Rattle.argos_grammar.specs.Views.{aspect_of}
use Rattle.argos_load.specs.Giving.{IsSaidOf}
use Rattle.argos_load.specs.Programs.{accepted}
use Rattle.argos_load.specs.Said.{Refused, said}
use Rattle.argos_load.specs.Stages.{gives, says}
use Rattle.argos_load.specs.WovenFiles.{AspectOver, aspect, fault}
use Rattle.argos_load.proofs.AspectStages.{says_aspect_scope, says_observer}
use Rattle.argos_report.specs.Texts.{refused_file}
use Rattle.line_format.specs.FileNames.{names_of}
use Rattle.pointcuts.specs.Pointcuts.{outputs}
use Rattle.pointcuts.specs.Refusals.{TellsWhyNot}
use Rattle.argos_load.proofs.aspects.aspect_over.Goals as goal

pub returns-in-Ok-clause-aspect : goal.returns-in-Ok-clause-aspect
returns-in-Ok-clause-aspect c =
    let a = c.in-Ok.aspect in
    let told = c.in-Ok.ensures {u = tt} in
    (gives (aspect_view a), aspect (aspect_view a) told.aspect, (gives (module_of a.observer.«module»), accepted told.accepted, refl))

pub returns-in-Ok-clause-fits : goal.returns-in-Ok-clause-fits
returns-in-Ok-clause-fits c =
    let told = c.in-Ok.ensures {u = tt} in
    c.aspects_fit.ensures (aspect_of c.args.tree.now) (names_of c.args.names.now) (aspect_view c.in-Ok.aspect) told.aspect told.accepted.good

pub returns-in_ok-refusal-in-Err-Scope-clause-aspect : goal.returns-in_ok-refusal-in-Err-Scope-clause-aspect
returns-in_ok-refusal-in-Err-Scope-clause-aspect c =
    let k = c.args.number in
    let t = aspect_of c.args.tree.now in
    let n = names_of c.args.names.now in
    let why = subst (TellsWhyNot t n c.args.nodes) c.in-Err-Scope.field-0-is (c.in-Err-Scope.ensures {u = tt}).why in
    let report = c.in_ok-refusal-in-Err-Scope.field-0.items in
    let is = c.in_ok-refusal-in-Err-Scope.ensures {u = tt} ∙ ap (refused_file k) c.deref.ensures.value in
    (says (said Refused report), says_aspect_scope k t n c.in-Err-Scope.error c.in_ok-scope_cause-in-Err-Scope.field-0 report why (c.in_ok-scope_cause-in-Err-Scope.ensures {u = tt}) is, refl)

pub returns-in_ok-refusal-in-Err-Outputs-clause-aspect : goal.returns-in_ok-refusal-in-Err-Outputs-clause-aspect
returns-in_ok-refusal-in-Err-Outputs-clause-aspect c =
    let k = c.args.number in
    let t = aspect_of c.args.tree.now in
    let n = names_of c.args.names.now in
    let why = subst (TellsWhyNot t n c.args.nodes) c.in-Err-Outputs.field-0-is (c.in-Err-Outputs.ensures {u = tt}).why in
    let report = c.in_ok-refusal-in-Err-Outputs.field-0.items in
    let is = c.in_ok-refusal-in-Err-Outputs.ensures {u = tt} ∙ ap (refused_file k) (c.deref-in-Err-Outputs.ensures.value ∙ c.in_ok-outputs_cause-in-Err-Outputs.ensures {u = tt}) in
    (says (said Refused report), subst (λ r. AspectOver k n t (says (said Refused r))) (sym is) (fault (outputs c.in-Err-Outputs.count) why), refl)

pub returns-in_ok-refused-in-Err-Observer-clause-aspect : goal.returns-in_ok-refused-in-Err-Observer-clause-aspect
returns-in_ok-refused-in-Err-Observer-clause-aspect c =
    let k = c.args.number in
    let t = aspect_of c.args.tree.now in
    let n = names_of c.args.names.now in
    let nodes = c.args.nodes in
    let stop = c.in_ok-refused-in-Err-Observer.field-0 in
    let why = subst (TellsWhyNot t n nodes) c.in-Err-Observer.field-0-is (c.in-Err-Observer.ensures {u = tt}).why in
    says_observer aspect_view k t n why.aspect nodes stop why.is (subst (λ p. IsSaidOf k p nodes stop) why.observer (c.in_ok-refused-in-Err-Observer.ensures {u = tt}))
