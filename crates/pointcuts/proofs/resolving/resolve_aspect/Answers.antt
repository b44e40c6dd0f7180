use Rattle.std.proofs.Common.{◌≡◌, [], List, Some, map, ap, sym, ◌∙◌, subst}
use Rattle.argos_aspects.specs.Aspects.{Aspect}
use Rattle.argos_aspects.specs.Views.{seen_of, advice_of}
use Rattle.argos_core.specs.ModuleViews.{module_of}
use Rattle.argos_core.specs.declared.module.Module.{Module}
use Rattle.argos_expansion.specs.Expansion.{last_of}
use Rattle.argos_grammar.specs.Views.{component_of, aspect_of}
use Rattle.argos_grammar.specs.declared.trees.ComponentTree.{ComponentTree}
use Rattle.argos_names.specs.Refusals.{Refuses}
use Rattle.argos_names.specs.Scope.{breaches}
use Rattle.argos_scope.specs.Faults.{TellsFault}
use Rattle.argos_scope.specs.Meaning.{Resolves}
use Rattle.argos_scope.specs.inner.Joined.{error_of_fault}
use Rattle.line_format.specs.FileNames.{names_of}
use Rattle.pointcuts.specs.Pointcuts.{IsAspectOf}
use Rattle.pointcuts.specs.Refusals.{TellsWhyNot}
use Rattle.pointcuts.specs.inner.Errors.{error_of_scope, error_of_accept}
use Rattle.pointcuts.proofs.Refusing.{error_is, error_says, name_why, over_base_why, scope_why, accept_why, aspect_is}
use Rattle.pointcuts.proofs.resolving.resolve_aspect.Goals as goal

pub returns-in_err-check_names-clause-why : goal.returns-in_err-check_names-clause-why
returns-in_err-check_names-clause-why c =
    let n = names_of c.args.base.now in
    let t = aspect_of c.args.tree.now in
    let e = c.in_err-check_names.field-0.0 in
    let told = subst (λ (cs : List ComponentTree). Refuses (map component_of cs) e) c.deref.ensures.value c.in_err-check_names.ensures.broken in
    error_says (TellsWhyNot t n c.args.budget) c.from_residual.result (error_of_scope (error_of_fault e)) c.from_residual.ensures.1 (name_why t n c.args.budget e told)

pub returns-in_err-seen-clause-why : goal.returns-in_err-seen-clause-why
returns-in_err-seen-clause-why c =
    let n = names_of c.args.base.now in
    let t = aspect_of c.args.tree.now in
    let main = component_of c.main_of-main.result.now in
    let e = c.in_err-seen.field-0.0 in
    let sound = subst (λ (cs : List ComponentTree). breaches (map component_of cs) ≡ []) c.deref.ensures.value c.in_ok-check_names.ensures.kept in
    let last = subst (λ (cs : List ComponentTree). last_of (map component_of cs) ≡ Some main) c.deref-2.ensures.value c.main_of-main.ensures in
    error_says (TellsWhyNot t n c.args.budget) c.from_residual-in_err-seen.result e c.from_residual-in_err-seen.ensures.1 (over_base_why t n c.args.budget main sound last e c.in_err-seen.ensures.why)

pub returns-in_err-module-clause-why : goal.returns-in_err-module-clause-why
returns-in_err-module-clause-why c =
    let n = names_of c.args.base.now in
    let t = aspect_of c.args.tree.now in
    let main = component_of c.main_of-main.result.now in
    let e = c.in_err-module.field-0.0 in
    let last = subst (λ (cs : List ComponentTree). last_of (map component_of cs) ≡ Some main) c.deref-2.ensures.value c.main_of-main.ensures in
    let told = subst (λ (cs : List ComponentTree). TellsFault (map component_of cs) e) c.deref-3.ensures.value c.in_err-module.ensures.fault in
    error_says (TellsWhyNot t n c.args.budget) c.from_residual-in_err-module.result (error_of_scope e) c.from_residual-in_err-module.ensures.1
    (scope_why t n c.args.budget main last c.in_ok-seen.ensures.known.none e told)

pub returns-in-Ok-clause-aspect : goal.returns-in-Ok-clause-aspect
returns-in-Ok-clause-aspect c =
    let n = names_of c.args.base.now in
    let t = aspect_of c.args.tree.now in
    let main = component_of c.main_of-main.result.now in
    let last = subst (λ (cs : List ComponentTree). last_of (map component_of cs) ≡ Some main) c.deref-2.ensures.value c.main_of-main.ensures in
    let resolves = subst (λ (cs : List ComponentTree). Resolves (map component_of cs) (module_of c.in_ok-module.module)) c.deref-3.ensures.value c.in_ok-module.ensures.module in
    let A : Aspect = record { observer = module_of c.in_ok-module.module; seen = map seen_of c.in_ok-seen.seen.items; advice = advice_of c.in_ok-seen.advice } in
    let is : IsAspectOf t n A = aspect_is t n A main resolves last c.in_ok-seen.ensures.known in
    subst (λ (m : Module). IsAspectOf t n (record { observer = module_of m; seen = map seen_of c.in_ok-seen.seen.items; advice = advice_of c.in_ok-seen.advice })) (sym c.in-Ok.ensures.kept) is

pub returns-in-Err-clause-why : goal.returns-in-Err-clause-why
returns-in-Err-clause-why c =
    let n = names_of c.args.base.now in
    let t = aspect_of c.args.tree.now in
    let main = component_of c.main_of-main.result.now in
    let last = subst (λ (cs : List ComponentTree). last_of (map component_of cs) ≡ Some main) c.deref-2.ensures.value c.main_of-main.ensures in
    let resolves = subst (λ (cs : List ComponentTree). Resolves (map component_of cs) (module_of c.in_ok-module.module)) c.deref-3.ensures.value c.in_ok-module.ensures.module in
    let A : Aspect = record { observer = module_of c.in_ok-module.module; seen = map seen_of c.in_ok-seen.seen.items; advice = advice_of c.in_ok-seen.advice } in
    let is : IsAspectOf t n A = aspect_is t n A main resolves last c.in_ok-seen.ensures.known in
    error_is (TellsWhyNot t n c.args.budget) c.unaccepted.result (error_of_accept c.in-Err.module c.in-Err.error) c.unaccepted.ensures
    (accept_why t n c.args.budget A is c.in-Err.module (ap module_of c.in-Err.ensures.kept) c.in-Err.error c.in-Err.ensures.answer)
