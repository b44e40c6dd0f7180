use Rattle.std.proofs.Common.{◌≡◌, List, map, sym, ap, ◌∙◌, subst}
use Rattle.std.specs.List.{AllByRecursion}
use Rattle.argos_core.specs.ModuleViews.{module_of}
use Rattle.argos_grammar.specs.Text.{IsComponent}
use Rattle.argos_grammar.specs.Views.{component_of, program_of}
use Rattle.argos_grammar.specs.declared.trees.ComponentTree.{ComponentTree}
use Rattle.argos_scope.specs.Faults.{TellsFault}
use Rattle.argos_scope.specs.Meaning.{Means, Resolves}
use Rattle.argos_scope.specs.TextFaults.{TellsWhy}
use Rattle.argos_scope.specs.inner.TextErrors.{error_of_parse, error_of_scope}
use Rattle.argos_scope.proofs.ResolvedTexts.{error_says, error_exact, scope_why, no_fault_told}
use Rattle.argos_scope.proofs.text.resolve_text.Goals as goal

pub returns-in_err-program-clause-exact : goal.returns-in_err-program-clause-exact
returns-in_err-program-clause-exact c = λ p m.
    error_exact c.from_residual.result (error_of_parse c.in_err-program.field-0.0) p c.from_residual.ensures.1 (ap error_of_parse (c.in_err-program.ensures.exact m.0 m.1))

pub resolve-requires-clause-formed : goal.resolve-requires-clause-formed
resolve-requires-clause-formed c =
    subst (λ (cs : List ComponentTree). AllByRecursion IsComponent (map component_of cs)) (sym c.deref.ensures.value)
    (c.programs_are_well_formed.ensures c.args.text.now (program_of c.in_ok-program.program) c.in_ok-program.ensures.text).2

pub returns-in_err-resolve-clause-why : goal.returns-in_err-resolve-clause-why
returns-in_err-resolve-clause-why c =
    let e = c.in_err-resolve.field-0.0 in
    let told = subst (λ (cs : List ComponentTree). TellsFault (map component_of cs) e) c.deref.ensures.value c.in_err-resolve.ensures.fault in
    error_says (TellsWhy c.args.text.now) c.from_residual-in_err-resolve.result (error_of_scope e) c.from_residual-in_err-resolve.ensures.1
    (scope_why c.args.text.now (program_of c.in_ok-program.program) e c.in_ok-program.ensures.text told)

pub returns-in_err-resolve-clause-exact : goal.returns-in_err-resolve-clause-exact
returns-in_err-resolve-clause-exact c = λ p m.
    let e = c.in_err-resolve.field-0.0 in
    let t = program_of c.in_ok-program.program in
    let told = subst (λ (cs : List ComponentTree). TellsFault (map component_of cs) e) c.deref.ensures.value c.in_err-resolve.ensures.fault in
    error_exact c.from_residual-in_err-resolve.result (error_of_scope e) p c.from_residual-in_err-resolve.ensures.1
    (no_fault_told t.components e (λ f h. c.one_meaning.ensures.no_fault c.args.text.now t p f m c.in_ok-program.ensures.text h) told)

pub returns-clause-means : goal.returns-clause-means
returns-clause-means c =
    let m = module_of c.in_ok-resolve.field-0 in
    (program_of c.in_ok-program.program, c.in_ok-program.ensures.text, subst (λ (cs : List ComponentTree). Resolves (map component_of cs) m) c.deref.ensures.value c.in_ok-resolve.ensures.module)

pub returns-clause-exact : goal.returns-clause-exact
returns-clause-exact c = λ p h.
    let m = module_of c.in_ok-resolve.field-0 in
    let means : Means c.args.text.now m = (program_of c.in_ok-program.program, c.in_ok-program.ensures.text, subst (λ (cs : List ComponentTree). Resolves (map component_of cs) m) c.deref.ensures.value c.in_ok-resolve.ensures.module) in
    c.one_meaning.ensures.once c.args.text.now m p means h
