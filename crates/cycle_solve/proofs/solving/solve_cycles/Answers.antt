use Rattle.std.proofs.Common.{◌≡◌, ◌+◌, ℕ, List, Err, length, refl, sym, ap, ◌∙◌, subst, arith}
use Rattle.std.proofs.lemmas.Bool.{false≢true}
use Rattle.std.proofs.lemmas.List.{length-map}
use Rattle.argos_core.specs.Views.{shapes_of, register_shape_of}
use Rattle.dd_core.specs.declared.nodes.NodeId.{NodeId}
use Rattle.dd_core.specs.Arenas.{IsEmpty}
use Rattle.eqn_completion.specs.Binary.{digits_in}
use Rattle.eqn_core.specs.Ordered.{IsOrdered}
use Rattle.eqn_core.specs.Views.{equations_from}
use Rattle.eqn_dd.proofs.PlannedSystems.{planned_placeable}
use Rattle.instant_verdict.specs.Jobs.{job_variables, IsStopped}
use Rattle.instant_verdict.specs.inner.Decoded.{register_widths}
use Rattle.instant_verdict.proofs.SearchSteps.{registers-sized}
use Rattle.instant_verdict.proofs.VerdictSteps.{first-cyclic, digits-few, widths-are, few-cyclic, few-variables}
use Rattle.cycle_solve.specs.inner.Listing.{AreUnder}
use Rattle.cycle_solve.proofs.Stopping.{stopped}
use Rattle.cycle_solve.proofs.SolvedFacts.{few-nodes, is-ordered, is-solved, moved_system}
use Rattle.cycle_solve.proofs.solving.solve_cycles.Goals as goal

pub place_vars-requires-clause-placeable : goal.place_vars-requires-clause-placeable
place_vars-requires-clause-placeable c = planned_placeable
    (equations_from c.args.system.now) c.args.plan.now.order.items c.args.plan.now.cyclic.items
    c.requires.orderable c.requires.plan

pub overflow_cast-len : goal.overflow_cast-len
overflow_cast-len c =
    few-cyclic (equations_from c.args.system.now) c.args.plan.now.order.items c.args.plan.now.cyclic.items
    c.len.result c.requires.orderable c.requires.plan (c.len.ensures ∙ c.args.plan.now.cyclic.ok.0)

pub overflow_add-points : goal.overflow_add-points
overflow_add-points c =
    let shapes = shapes_of c.args.layout.now in
    let points = c.index-points.ensures
    ∙ first-cyclic shapes c.index-points.result.now c.in_ok-places.ensures c.requires.cyclic in
    let long = length-map c.args.layout.now.regs.items register_shape_of ∙ c.requires.sized in
    few-variables (equations_from c.args.system.now) c.args.plan.now.order.items c.args.plan.now.cyclic.items
    c.index-points.result.now c.len.result c.requires.orderable c.requires.plan
    (omega (arith, points, long, digits-few shapes)) (c.len.ensures ∙ c.args.plan.now.cyclic.ok.0)

pub cycle_roots-requires-clause-points : goal.cycle_roots-requires-clause-points
cycle_roots-requires-clause-points c = c.index-points.ensures
    ∙ first-cyclic (shapes_of c.args.layout.now) c.index-points.result.now c.in_ok-places.ensures
    c.requires.cyclic

pub cycle_roots-requires-clause-variables : goal.cycle_roots-requires-clause-variables
cycle_roots-requires-clause-variables c =
    let points = c.index-points.ensures
    ∙ first-cyclic (shapes_of c.args.layout.now) c.index-points.result.now c.in_ok-places.ensures
    c.requires.cyclic in
    c.in_ok-arena.ensures.empty.variables ∙ omega (arith, points, (c.len.ensures ∙ c.args.plan.now.cyclic.ok.0))

pub returns-in-Err-Budget-clause-budget : goal.returns-in-Err-Budget-clause-budget
returns-in-Err-Budget-clause-budget c = λ arena e.
    let shapes = shapes_of c.args.layout.now in
    let points = c.index-points.ensures
    ∙ first-cyclic shapes c.index-points.result.now c.in_ok-places.ensures c.requires.cyclic in
    let variables : c.index-points.result.now + c.len.result
    ≡ job_variables (equations_from c.args.system.now) shapes c.args.plan.now.cyclic.items = omega
    (arith, points, (c.len.ensures ∙ c.args.plan.now.cyclic.ok.0)) in
    let same : c.cycle_roots.new.arena ≡ arena = cc in
    subst (IsStopped (equations_from c.args.system.now) shapes c.args.plan.now.cyclic.items c.args.budget) same
    (stopped (equations_from c.args.system.now) shapes c.args.plan.now.cyclic.items c.args.budget
    c.in_ok-arena.arena c.cycle_roots.new.arena
    (length-map c.args.layout.now.regs.items register_shape_of ∙ c.requires.sized)
    (subst (λ (v : ℕ). IsEmpty v c.args.budget c.in_ok-arena.arena) variables c.in_ok-arena.ensures.empty)
    c.in-Err-Budget.ensures.adds (c.in-Err-Budget.ensures.budget (ap Err c.in-Err-Budget.field-0-is)))

pub solved_system-requires-clause-digits : goal.solved_system-requires-clause-digits
solved_system-requires-clause-digits c =
    ap length c.deref-2.ensures.value ∙ registers-sized (shapes_of c.args.layout.now) c.in_ok-places.ensures
    ∙ length-map c.args.layout.now.regs.items register_shape_of ∙ c.requires.sized

pub solved_system-requires-clause-points : goal.solved_system-requires-clause-points
solved_system-requires-clause-points c =
    let shapes = shapes_of c.args.layout.now in
    let points = c.index-points.ensures
    ∙ first-cyclic shapes c.index-points.result.now c.in_ok-places.ensures c.requires.cyclic in
    points ∙ ap (λ (ws : List ℕ). digits_in ws + c.args.system.now.inputs) (sym
    (ap register_widths c.deref-2.ensures.value ∙ widths-are shapes c.in_ok-places.ensures))

pub solved_system-requires-clause-few_nodes : goal.solved_system-requires-clause-few_nodes
solved_system-requires-clause-few_nodes c =
    let E = equations_from c.args.system.now in
    let long = length-map c.args.layout.now.regs.items register_shape_of ∙ c.requires.sized in
    let under = subst (λ (l : List NodeId). AreUnder c.cycle_roots.new.arena.nodes l c.in_ok-ids.ids.items)
    c.deref.ensures.value c.in_ok-ids.ensures.under in
    omega (
      arith,
      few-nodes E c.args.plan.now.order.items c.args.plan.now.cyclic.items
          (shapes_of c.args.layout.now) c.cycle_roots.new.arena c.in_ok-ids.ids.items c.in-Ok.roots.items
          c.requires.orderable c.requires.plan long c.requires.reacts c.in-Ok.ensures.roots under,
      ap length
          c.deref-3.ensures.value,
    )

pub overflow_cast-result : goal.overflow_cast-result
overflow_cast-result c =
    let E = equations_from c.args.system.now in
    let long = length-map c.args.layout.now.regs.items register_shape_of ∙ c.requires.sized in
    let under = subst (λ (l : List NodeId). AreUnder c.cycle_roots.new.arena.nodes l c.in_ok-ids.ids.items)
    c.deref.ensures.value c.in_ok-ids.ensures.under in
    omega (
      arith,
      few-nodes E c.args.plan.now.order.items c.args.plan.now.cyclic.items
          (shapes_of c.args.layout.now) c.cycle_roots.new.arena c.in_ok-ids.ids.items c.in-Ok.roots.items
          c.requires.orderable c.requires.plan long c.requires.reacts c.in-Ok.ensures.roots under,
      c.len-in-Ok-from_system.ensures,
      c.in_ok-ids.ids.ok.0,
    )

pub unreachable-requires : goal.unreachable-requires
unreachable-requires c =
    let E = equations_from c.args.system.now in
    let order = c.args.plan.now.order.items in
    let cyclic = c.args.plan.now.cyclic.items in
    let shapes = shapes_of c.args.layout.now in
    let long = length-map c.args.layout.now.regs.items register_shape_of ∙ c.requires.sized in
    let nodes = c.cycle_roots.new.arena.nodes in
    let under = subst (λ (l : List NodeId). AreUnder nodes l c.in_ok-ids.ids.items) c.deref.ensures.value
    c.in_ok-ids.ensures.under in
    let same = moved_system E order cyclic nodes c.in_ok-solved.ensures.is
    (ap register_widths c.deref-2.ensures.value
    ∙ widths-are shapes c.in_ok-places.ensures) c.deref-3.ensures.value c.deref-4.ensures.value in
    let ordered = subst IsOrdered (sym same)
    (is-ordered E order cyclic shapes c.cycle_roots.new.arena c.in_ok-ids.ids.items c.in-Ok.roots.items
    c.requires.orderable c.requires.plan long c.requires.reacts c.in-Ok.ensures.roots under
    c.requires.register c.in_ok-solved.ensures.codes) in
    false≢true (c.in-Err.ensures.ordered.1 ordered)

pub returns-clause-solved : goal.returns-clause-solved
returns-clause-solved c =
    let E = equations_from c.args.system.now in
    let order = c.args.plan.now.order.items in
    let cyclic = c.args.plan.now.cyclic.items in
    let shapes = shapes_of c.args.layout.now in
    let long = length-map c.args.layout.now.regs.items register_shape_of ∙ c.requires.sized in
    let nodes = c.cycle_roots.new.arena.nodes in
    let under = subst (λ (l : List NodeId). AreUnder nodes l c.in_ok-ids.ids.items) c.deref.ensures.value
    c.in_ok-ids.ensures.under in
    let same = moved_system E order cyclic nodes c.in_ok-solved.ensures.is
    (ap register_widths c.deref-2.ensures.value
    ∙ widths-are shapes c.in_ok-places.ensures) c.deref-3.ensures.value c.deref-4.ensures.value in
    let kept = c.in-Ok-from_system.ensures.kept in
    is-solved E order cyclic shapes c.cycle_roots.new.arena c.in_ok-ids.ids.items c.in-Ok.roots.items
    c.requires.orderable c.requires.plan long c.requires.reacts c.in-Ok.ensures.roots under
    c.in-Ok-from_system.ordered c.len-in-Ok-from_system.result (kept ∙ same) (c.len-in-Ok-from_system.ensures
    ∙ c.in_ok-ids.ids.ok.0)
    (subst IsOrdered (sym kept) (c.in-Ok-from_system.ensures.ordered.0 refl))
