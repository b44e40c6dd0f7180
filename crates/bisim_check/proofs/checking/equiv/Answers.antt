use Rattle.std.proofs.Common.{sym, subst, ◌∙◌, Result, IfOk}
use Rattle.std.proofs.Math.Logic.{∥∥₁_elim, ∥∥₁_map, ∥∥₁_prop}
use Rattle.argos_compile.specs.Accepting.{IsAccepted}
use Rattle.argos_congruence.specs.Congruence.{HaveSameNames}
use Rattle.argos_core.specs.ModuleViews.{module_of}
use Rattle.argos_core.specs.declared.module.Module.{Module}
use Rattle.bisim_check.specs.Found.{answer_of}
use Rattle.bisim_check.specs.declared.found.EquivFound.{EquivFound}
use Rattle.bisim_formula.specs.Views.{formula_of}
use Rattle.bisim_verdict.specs.Bisimulation.{IsEquivAnswer}
use Rattle.bisim_verdict.proofs.Accepted.{accepted_are_equal}
use Rattle.eqn_dd.specs.declared.errors.CheckError.{CheckError}
use Rattle.bisim_check.proofs.checking.equiv.Goals as goal

pub returns-clause-congruence : goal.returns-clause-congruence
returns-clause-congruence c = λ e.
    let P = module_of c.args.left.now.«module» in
    let Q = module_of c.args.right.now.«module» in
    let F = formula_of c.args.cert.now in
    let due = subst (λ (r : Result EquivFound CheckError). IfOk r (λ found. ∥ IsEquivAnswer F P Q (answer_of found) ∥₁)) e c.decide.ensures.answer in
    ∥∥₁_elim c.args.left.now.judged ∥∥₁_prop (λ (left : IsAccepted P c.args.left.now.ordered c.args.left.now.lines).
    ∥∥₁_elim c.args.right.now.judged ∥∥₁_prop (λ (right : IsAccepted Q c.args.right.now.ordered c.args.right.now.lines).
    ∥∥₁_map due (λ is. (accepted_are_equal F P Q left.acceptable.good right.acceptable.good is).0)))

pub returns-clause-variables : goal.returns-clause-variables
returns-clause-variables c = λ n e.
    let v = c.decide.ensures.variables n e in
    let here : HaveSameNames (module_of c.args.left.now.«module») (module_of c.module-2.result.now) = subst (λ (m : Module). HaveSameNames (module_of m) (module_of c.module-2.result.now)) c.module.ensures c.in_default.ensures.same in
    let same : HaveSameNames (module_of c.args.left.now.«module») (module_of c.args.right.now.«module») = subst (λ (m : Module). HaveSameNames (module_of c.args.left.now.«module») (module_of m)) c.module-2.ensures here in
    (v.0, v.1, ∣ record { same = same; started = sym c.starts_related.ensures ∙ c.if-not-starts_related.false } ∣₁)
