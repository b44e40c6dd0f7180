use Rattle.std.proofs.Common.{map, subst}
use Rattle.argos_core.specs.Modules.{IsModule}
use Rattle.argos_core.specs.Views.{process_of}
use Rattle.argos_grammar.specs.Views.{component_of}
use Rattle.argos_scope.specs.Meaning.{Resolves}
use Rattle.argos_scope.proofs.ResolvedParts.{module_with, resolved, few, made_of}
use Rattle.argos_scope.proofs.resolving.resolve.Goals as goal

pub names_of-requires-clause-distinct : goal.names_of-requires-clause-distinct
names_of-requires-clause-distinct c =
    let cs = map component_of c.args.components.now in
    let d = c.index-components-components.result in
    let resolves = resolved c.args.components.now d c.index-components-components.is c.requires.some c.in_ok-check_names.ensures.kept c.in_ok-expanded.ensures.expansion.2 in
    (c.resolved_modules_are_kept.ensures cs (module_with cs (component_of d)) c.requires.formed resolves).names

pub names_of-requires-clause-few : goal.names_of-requires-clause-few
names_of-requires-clause-few c =
    let cs = map component_of c.args.components.now in
    let d = c.index-components-components.result in
    let resolves = resolved c.args.components.now d c.index-components-components.is c.requires.some c.in_ok-check_names.ensures.kept c.in_ok-expanded.ensures.expansion.2 in
    few cs d (c.resolved_modules_are_kept.ensures cs (module_with cs (component_of d)) c.requires.formed resolves)

pub invariant_of-result : goal.invariant_of-result
invariant_of-result c =
    let cs = map component_of c.args.components.now in
    let d = c.index-components-components.result in
    let p = module_with cs (component_of d) in
    let x = c.in_ok-expanded.expanded in
    let names = c.in_ok-names.names in
    let grown = c.in_ok-expanded.ensures.expansion in
    let resolves = resolved c.args.components.now d c.index-components-components.is c.requires.some c.in_ok-check_names.ensures.kept grown.2 in
    let same = made_of p (process_of x.prog) names.inputs names.outputs x.locals.items grown.0 c.in_ok-names.ensures.inputs c.in_ok-names.ensures.outputs grown.1 in
    record { kept = subst IsModule same (c.resolved_modules_are_kept.ensures cs p c.requires.formed resolves) }

pub returns-clause-module : goal.returns-clause-module
returns-clause-module c =
    let cs = map component_of c.args.components.now in
    let d = c.index-components-components.result in
    let x = c.in_ok-expanded.expanded in
    let names = c.in_ok-names.names in
    let grown = c.in_ok-expanded.ensures.expansion in
    let resolves = resolved c.args.components.now d c.index-components-components.is c.requires.some c.in_ok-check_names.ensures.kept grown.2 in
    let same = made_of (module_with cs (component_of d)) (process_of x.prog) names.inputs names.outputs x.locals.items grown.0 c.in_ok-names.ensures.inputs c.in_ok-names.ensures.outputs grown.1 in
    subst (Resolves cs) same resolves
