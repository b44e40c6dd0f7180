use Rattle.std.proofs.Common.{◌≡◌, ◌<◌, ℕ, Err, ap, sym, ◌∙◌, subst}
use Rattle.dd_core.specs.declared.errors.NewError.TheVariants.{Variables}
use Rattle.eqn_dd.proofs.jobs.job_arena.Goals as goal

pub returns-in-Err-Variables-clause-variables : goal.returns-in-Err-Variables-clause-variables
returns-in-Err-Variables-clause-variables c = λ n e.
    let same : c.in-Err-Variables.n ≡ n = cc in
    let error : c.in-Err-Variables.field-0 ≡ Variables n = c.in-Err-Variables.field-0-is ∙ ap Variables same in
    let h = (c.in-Err-Variables.ensures.variables n).0 (ap Err error) in
    (h.1, subst (λ (k : ℕ). 1024 < k) (sym h.1) h.0)
