use Rattle.std.proofs.Common.{◌≡◌, length, ap, sym, ◌∙◌, subst, arith}
use Rattle.std.proofs.lemmas.List.{length-map}
use Rattle.eqn_core.specs.Equations.{Equations, weight_of}
use Rattle.eqn_core.specs.Ordered.{IsOrdered}
use Rattle.eqn_core.specs.Views.{line_of, equations_from}
use Rattle.eqn_completion.specs.Sorted.{sorted_system}
use Rattle.eqn_completion.proofs.Sorting.{sorted_are_small}
use Rattle.eqn_sort.specs.Promises.{HasReactionsOf}
use Rattle.eqn_sort.proofs.Reactions.{acyclic, sorted_fine, has_runs}
use Rattle.eqn_sort.proofs.sorting.sort.Goals as goal

pub returns-clause-reactions : goal.returns-clause-reactions
returns-clause-reactions c =
    let E = equations_from c.args.system.now in
    let order = c.args.plan.now.order.items in
    let same : c.in-Ok.ordered ≡ sorted_system E order = c.in-Ok.ensures.kept ∙ c.in_ok-sorted.ensures.is in
    let ordered : IsOrdered (sorted_system E order) = subst IsOrdered c.in_ok-sorted.ensures.is c.in_ok-sorted.ensures.ordered in
    subst (λ (F : Equations). HasReactionsOf F E) (sym same) (sorted_fine E order c.requires.orderable (acyclic E order c.args.plan.now.cyclic.items c.requires.plan c.requires.acyclic) ordered)

pub returns-clause-runs : goal.returns-clause-runs
returns-clause-runs c =
    let E = equations_from c.args.system.now in
    let order = c.args.plan.now.order.items in
    let same : c.in-Ok.ordered ≡ sorted_system E order = c.in-Ok.ensures.kept ∙ c.in_ok-sorted.ensures.is in
    has_runs c.in-Ok.ordered E (ap (λ (F : Equations). F.initial) same) (returns-clause-reactions c)

pub returns-clause-lines : goal.returns-clause-lines
returns-clause-lines c =
    let E = equations_from c.args.system.now in
    let order = c.args.plan.now.order.items in
    let same : c.in-Ok.ordered ≡ sorted_system E order = c.in-Ok.ensures.kept ∙ c.in_ok-sorted.ensures.is in
    let small = sorted_are_small E order (acyclic E order c.args.plan.now.cyclic.items c.requires.plan c.requires.acyclic) in
    omega (arith, ap (λ (F : Equations). length F.lines) same, small.0, length-map c.args.system.now.lines.items line_of)

pub returns-clause-weight : goal.returns-clause-weight
returns-clause-weight c =
    let E = equations_from c.args.system.now in
    let order = c.args.plan.now.order.items in
    let same : c.in-Ok.ordered ≡ sorted_system E order = c.in-Ok.ensures.kept ∙ c.in_ok-sorted.ensures.is in
    let small = sorted_are_small E order (acyclic E order c.args.plan.now.cyclic.items c.requires.plan c.requires.acyclic) in
    omega (arith, ap weight_of same, small.1)
