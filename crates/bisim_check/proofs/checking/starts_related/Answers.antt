use Rattle.std.proofs.Common.{List, ℕ, ap, ◌∙◌}
use Rattle.argos_core.specs.ModuleViews.{module_of}
use Rattle.argos_core.specs.Views.{shapes_of}
use Rattle.bisim_check.proofs.Deciding.{starts_as, initial_as}
use Rattle.bisim_formula.specs.Views.{formula_of}
use Rattle.eqn_core.specs.Equations.{Equations}
use Rattle.bisim_check.proofs.checking.starts_related.Goals as goal

pub returns : goal.returns
returns c =
    let P = module_of c.args.left.now.«module» in
    let Q = module_of c.args.right.now.«module» in
    let initial : Equations → List ℕ = λ e. e.initial in
    c.holds.ensures
    ∙ starts_as (formula_of c.args.cert.now) P Q (ap shapes_of c.layout.ensures ∙ c.args.left.now.laid) (ap shapes_of c.layout-2.ensures ∙ c.args.right.now.laid)
    (initial_as P c.args.left.now.ordered c.args.left.now.lines c.deref.result.now c.args.left.now.judged (c.deref.ensures.value ∙ ap initial (c.system.ensures.system ∙ c.ordered.ensures)))
    (initial_as Q c.args.right.now.ordered c.args.right.now.lines c.deref-2.result.now c.args.right.now.judged (c.deref-2.ensures.value ∙ ap initial (c.system-2.ensures.system ∙ c.ordered-2.ensures)))
