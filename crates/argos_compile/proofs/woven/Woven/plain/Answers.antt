use Rattle.std.proofs.Common.{List, sym, subst}
use Rattle.argos_compile.specs.AspectViews.{woven_from}
use Rattle.argos_compile.specs.Weaving.{IsWoven}
use Rattle.argos_compile.specs.declared.aspect.Aspect.{Aspect}
use Rattle.argos_compile.proofs.Machines.{kept_woven}
use Rattle.argos_core.specs.ModuleViews.{module_of}
use Rattle.argos_compile.proofs.woven.Woven.plain.Goals as goal

pub invariant_of-result-clause-judged : goal.invariant_of-result-clause-judged
invariant_of-result-clause-judged c =
    let a = c.args.accepted in
    let kept = kept_woven (module_of a.«module») a.ordered a.lines c.system-system.ensures.ordered a.judged in
    subst (λ (aspects : List Aspect). ∥ IsWoven (woven_from (module_of a.«module») aspects) a.ordered a.lines ∥₁) (sym c.new.ensures.items) kept
