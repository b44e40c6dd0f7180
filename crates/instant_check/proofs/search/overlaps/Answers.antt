use Rattle.std.proofs.Common.{ℕ, subst, sym, arith}
use Rattle.argos_core.specs.ModuleViews.{module_of}
use Rattle.instant_check.specs.inner.Jobs.{jobs_of, AreFit}
use Rattle.instant_check.specs.inner.Searching.{Answers}
use Rattle.instant_check.proofs.FitModules.{module_fit, module_numbered}
use Rattle.instant_check.proofs.ModuleStates.{answer_found, answer_wide, answer_stopped}
use Rattle.instant_check.proofs.search.overlaps.Goals as goal

pub process_overlaps-requires-clause-fit : goal.process_overlaps-requires-clause-fit
process_overlaps-requires-clause-fit c =
    let P = module_of c.args.module.now in
    subst (λ (n : ℕ). AreFit n (jobs_of P.process)) (sym c.count_signals.ensures) (module_fit P c.args.module.now.kept)

pub process_overlaps-requires-clause-numbered : goal.process_overlaps-requires-clause-numbered
process_overlaps-requires-clause-numbered c =
    let few = module_numbered (module_of c.args.module.now) c.args.module.now.kept in omega (arith, few)

pub returns-clause-found : goal.returns-clause-found
returns-clause-found c =
    let P = module_of c.args.module.now in
    answer_found P c.args.budget c.process_overlaps.result (subst (λ (n : ℕ). Answers n c.args.budget 0 (jobs_of P.process) c.process_overlaps.result) c.count_signals.ensures c.process_overlaps.ensures.answer)

pub returns-clause-variables : goal.returns-clause-variables
returns-clause-variables c =
    let P = module_of c.args.module.now in
    answer_wide P c.args.budget c.process_overlaps.result (subst (λ (n : ℕ). Answers n c.args.budget 0 (jobs_of P.process) c.process_overlaps.result) c.count_signals.ensures c.process_overlaps.ensures.answer)

pub returns-clause-budget : goal.returns-clause-budget
returns-clause-budget c =
    let P = module_of c.args.module.now in
    answer_stopped P c.args.budget c.process_overlaps.result (subst (λ (n : ℕ). Answers n c.args.budget 0 (jobs_of P.process) c.process_overlaps.result) c.count_signals.ensures c.process_overlaps.ensures.answer)
