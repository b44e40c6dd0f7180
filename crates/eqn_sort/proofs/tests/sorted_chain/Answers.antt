use Rattle.std.proofs.Common.{ℕ, List, sym, subst}
use Rattle.eqn_core.specs.Plans.{IsPlanOf}
use Rattle.eqn_core.specs.Views.{equations_from}
use Rattle.eqn_sort.specs.inner.Samples.{chain, chain_order}
use Rattle.eqn_sort.proofs.Samples.{chain_is_sample, sample_there}
use Rattle.eqn_sort.proofs.tests.sorted_chain.Goals as goal

pub sort-requires-clause-orderable : goal.sort-requires-clause-orderable
sort-requires-clause-orderable c = (sample_there (equations_from c.in_ok-system.system) chain c.in_ok-plan.plan.order.items chain_order chain_is_sample c.in_ok-system.ensures c.in_ok-plan.ensures.order).orderable

pub sort-requires-clause-plan : goal.sort-requires-clause-plan
sort-requires-clause-plan c =
    let E = equations_from c.in_ok-system.system in
    let order = c.in_ok-plan.plan.order.items in
    subst (λ (ks : List ℕ). IsPlanOf E order ks) (sym c.in_ok-plan.ensures.acyclic) (sample_there E chain order chain_order chain_is_sample c.in_ok-system.ensures c.in_ok-plan.ensures.order).plan
