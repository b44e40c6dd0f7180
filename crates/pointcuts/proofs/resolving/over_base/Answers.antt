use Rattle.std.proofs.Common.{◌≡◌, [], List, subst}
use Rattle.std.specs.Prelude.{flat_map}
use Rattle.argos_grammar.specs.Views.{component_of, aspect_of, marks_of}
use Rattle.argos_grammar.specs.declared.trees.Spot.{Spot}
use Rattle.line_format.specs.FileNames.{names_of}
use Rattle.pointcuts.specs.Pointcuts.{base_scope, seeing, faults_over}
use Rattle.pointcuts.specs.inner.Errors.{error_of_scope}
use Rattle.pointcuts.specs.inner.Finding.{TellsFirstOrNothing, TellsFirstFault}
use Rattle.pointcuts.proofs.Refusing.{error_says, outputs_told, seen_told, advice_told}
use Rattle.pointcuts.proofs.resolving.over_base.Goals as goal

pub returns-in_err-check_outputs-clause-why : goal.returns-in_err-check_outputs-clause-why
returns-in_err-check_outputs-clause-why c =
    let n = names_of c.args.base.now in
    let main = component_of c.args.main.now in
    let t = aspect_of c.args.tree.now in
    let e = c.in_err-check_outputs.field-0.0 in
    error_says (TellsFirstFault (faults_over n main t)) c.from_residual.result e c.from_residual.ensures.1 (outputs_told n main t e c.in_err-check_outputs.ensures)

pub returns-in_err-seen-clause-why : goal.returns-in_err-seen-clause-why
returns-in_err-seen-clause-why c =
    let n = names_of c.args.base.now in
    let main = component_of c.args.main.now in
    let t = aspect_of c.args.tree.now in
    let e = c.in_err-seen.field-0.0 in
    let told = subst (λ (xs : List Spot). TellsFirstOrNothing (flat_map (seeing (base_scope n)) (marks_of xs)) e) c.deref.ensures.value c.in_err-seen.ensures.known in
    error_says (TellsFirstFault (faults_over n main t)) c.from_residual-in_err-seen.result (error_of_scope e) c.from_residual-in_err-seen.ensures.1 (seen_told n main t c.in_ok-check_outputs.ensures e told)

pub returns-in_err-check_advice-clause-why : goal.returns-in_err-check_advice-clause-why
returns-in_err-check_advice-clause-why c =
    let n = names_of c.args.base.now in
    let main = component_of c.args.main.now in
    let t = aspect_of c.args.tree.now in
    let e = c.in_err-check_advice.field-0.0 in
    let known = subst (λ (xs : List Spot). flat_map (seeing (base_scope n)) (marks_of xs) ≡ []) c.deref.ensures.value c.in_ok-seen.ensures.known in
    error_says (TellsFirstFault (faults_over n main t)) c.from_residual-in_err-check_advice.result (error_of_scope e) c.from_residual-in_err-check_advice.ensures.1
    (advice_told n main t c.in_ok-check_outputs.ensures known e c.in_err-check_advice.ensures)
