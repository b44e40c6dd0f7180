use Rattle.std.proofs.Common.{arith}
use Rattle.std.proofs.lemmas.Result.{err_from_is_err_and}
use Rattle.dd_core.proofs.Caches.{sound_none}
use Rattle.dd_core.proofs.diagrams.Arena.new.Goals as goal

pub returns-in_err-new-clause-variables : goal.returns-in_err-new-clause-variables
returns-in_err-new-clause-variables c = λ n.
    let p = err_from_is_err_and c.from_residual.result c.from_residual.ensures.1 in
    let q = p.1 in let r = p.2 in
    ((λ is. absurd (cc)), (λ more. absurd (omega arith)))

pub returns-in_err-new-2-clause-variables : goal.returns-in_err-new-2-clause-variables
returns-in_err-new-2-clause-variables c = λ n.
    let p = err_from_is_err_and c.from_residual-in_err-new-2.result c.from_residual-in_err-new-2.ensures.1 in
    let q = p.1 in let r = p.2 in
    ((λ is. absurd (cc)), (λ more. absurd (omega arith)))

pub invariant_of-result : goal.invariant_of-result
invariant_of-result c = sound_none c.args.vars c.args.budget c.in_ok-new.field-0 c.in_ok-new-2.field-0.entries.items c.if-vars-gt-MOST_VARIABLES.false c.requires.least c.requires.greatest c.in_ok-new.ensures c.in_ok-new-2.ensures
