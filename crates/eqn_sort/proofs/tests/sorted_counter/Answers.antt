use Rattle.std.proofs.Common.{ℕ, List, length, ap, sym, ◌∙◌, subst}
use Rattle.eqn_core.specs.Equations.{Equations}
use Rattle.eqn_core.specs.Plans.{IsPlanOf}
use Rattle.eqn_core.specs.Views.{equations_from}
use Rattle.eqn_sort.specs.inner.Samples.{counter, counter_order}
use Rattle.eqn_sort.proofs.Samples.{counter_is_sample, sample_there}
use Rattle.eqn_sort.proofs.tests.sorted_counter.Goals as goal

pub sort-requires-clause-orderable : goal.sort-requires-clause-orderable
sort-requires-clause-orderable c = (sample_there (equations_from c.in_ok-system.system) counter c.in_ok-plan.plan.order.items counter_order counter_is_sample c.in_ok-system.ensures c.in_ok-plan.ensures.order).orderable

pub sort-requires-clause-plan : goal.sort-requires-clause-plan
sort-requires-clause-plan c =
    let E = equations_from c.in_ok-system.system in
    let order = c.in_ok-plan.plan.order.items in
    subst (λ (ks : List ℕ). IsPlanOf E order ks) (sym c.in_ok-plan.ensures.acyclic) (sample_there E counter order counter_order counter_is_sample c.in_ok-system.ensures c.in_ok-plan.ensures.order).plan

pub returns-clause-inputs : goal.returns-clause-inputs
returns-clause-inputs c = c.in_ok-sort.ensures.inputs ∙ ap (λ (E : Equations). E.inputs) c.in_ok-system.ensures

pub returns-clause-outputs : goal.returns-clause-outputs
returns-clause-outputs c = c.in_ok-sort.ensures.outputs ∙ ap (λ (E : Equations). length E.outputs) c.in_ok-system.ensures
