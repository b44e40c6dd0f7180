use Rattle.std.proofs.Common.{◌≡◌, ◌+◌, ℕ, List, Err, length, sym, ap, ◌∙◌, subst, arith}
use Rattle.std.proofs.lemmas.List.{length-map}
use Rattle.argos_core.specs.Views.{shapes_of, register_shape_of}
use Rattle.dd_core.specs.Arenas.{IsEmpty}
use Rattle.eqn_completion.specs.Binary.{digits_in}
use Rattle.eqn_core.specs.Views.{equations_from}
use Rattle.eqn_dd.specs.Structural.{widths_of}
use Rattle.eqn_dd.proofs.PlannedSystems.{planned_placeable}
use Rattle.instant_verdict.specs.Jobs.{job_variables, IsStopped}
use Rattle.instant_verdict.specs.inner.Decoded.{IsDecoded}
use Rattle.instant_verdict.proofs.VerdictSteps.{acyclic, verdict-read, no-items, some-items, first-cyclic, digits-few, widths-are, registers-narrow, sized-as, stopped, few-cyclic, few-variables}
use Rattle.instant_verdict.proofs.checking.instant.Goals as goal

pub place_vars-requires-clause-placeable : goal.place_vars-requires-clause-placeable
place_vars-requires-clause-placeable c = planned_placeable (equations_from c.args.system.now) c.args.plan.now.order.items c.args.plan.now.cyclic.items c.requires.orderable c.requires.plan

pub returns-then-is_empty-clause-verdict : goal.returns-then-is_empty-clause-verdict
returns-then-is_empty-clause-verdict c =
    let none = no-items c.args.plan.now.cyclic.items c.args.plan.now.cyclic.len c.args.plan.now.cyclic.ok.0 (sym c.is_empty.ensures ∙ c.if-is_empty.true) in
    acyclic (equations_from c.args.system.now) c.args.plan.now.order.items c.args.plan.now.cyclic.items (shapes_of c.args.layout.now) none c.requires.plan
    (length-map c.args.layout.now.regs.items register_shape_of ∙ c.requires.sized)

pub overflow_cast-len : goal.overflow_cast-len
overflow_cast-len c =
    few-cyclic (equations_from c.args.system.now) c.args.plan.now.order.items c.args.plan.now.cyclic.items c.len.result c.requires.orderable c.requires.plan (c.len.ensures ∙ c.args.plan.now.cyclic.ok.0)

pub overflow_add-points : goal.overflow_add-points
overflow_add-points c =
    let shapes = shapes_of c.args.layout.now in
    let some = some-items c.args.plan.now.cyclic.items c.args.plan.now.cyclic.len c.args.plan.now.cyclic.ok.0 (sym c.is_empty.ensures ∙ c.if-is_empty.false) in
    let points = c.index-points.ensures ∙ first-cyclic shapes c.index-points.result.now c.in_ok-places.ensures some in
    let long = length-map c.args.layout.now.regs.items register_shape_of ∙ c.requires.sized in
    few-variables (equations_from c.args.system.now) c.args.plan.now.order.items c.args.plan.now.cyclic.items c.index-points.result.now c.len.result c.requires.orderable c.requires.plan
    (omega (arith, points, long, digits-few shapes)) (c.len.ensures ∙ c.args.plan.now.cyclic.ok.0)

pub search-requires-clause-points : goal.search-requires-clause-points
search-requires-clause-points c =
    let some = some-items c.args.plan.now.cyclic.items c.args.plan.now.cyclic.len c.args.plan.now.cyclic.ok.0 (sym c.is_empty.ensures ∙ c.if-is_empty.false) in
    c.index-points.ensures ∙ first-cyclic (shapes_of c.args.layout.now) c.index-points.result.now c.in_ok-places.ensures some

pub search-requires-clause-variables : goal.search-requires-clause-variables
search-requires-clause-variables c =
    let some = some-items c.args.plan.now.cyclic.items c.args.plan.now.cyclic.len c.args.plan.now.cyclic.ok.0 (sym c.is_empty.ensures ∙ c.if-is_empty.false) in
    let points = c.index-points.ensures ∙ first-cyclic (shapes_of c.args.layout.now) c.index-points.result.now c.in_ok-places.ensures some in
    c.in_ok-arena.ensures.empty.variables ∙ omega (arith, points, (c.len.ensures ∙ c.args.plan.now.cyclic.ok.0))

pub verdict_of-requires-clause-sized : goal.verdict_of-requires-clause-sized
verdict_of-requires-clause-sized c =
    sized-as (widths_of (shapes_of c.args.layout.now)) 0 _ c.in_ok-places.places.regs.items c.args.system.now.inputs c.in-Ok.found (widths-are (shapes_of c.args.layout.now) c.in_ok-places.ensures) c.in-Ok.ensures.found.sized

pub verdict_of-requires-clause-narrow : goal.verdict_of-requires-clause-narrow
verdict_of-requires-clause-narrow c = registers-narrow (shapes_of c.args.layout.now) c.in_ok-places.ensures

pub verdict_of-requires-clause-few : goal.verdict_of-requires-clause-few
verdict_of-requires-clause-few c =
    let shapes = shapes_of c.args.layout.now in
    let same = ap digits_in (widths-are shapes c.in_ok-places.ensures) in
    let long = length-map c.args.layout.now.regs.items register_shape_of ∙ c.requires.sized in
    omega (arith, same, long, digits-few shapes, c.requires.orderable.register_limit, c.requires.orderable.input_limit)

pub returns-in-Ok-clause-verdict : goal.returns-in-Ok-clause-verdict
returns-in-Ok-clause-verdict c =
    let shapes = shapes_of c.args.layout.now in
    let e = equations_from c.args.system.now in
    verdict-read e c.args.plan.now.order.items c.args.plan.now.cyclic.items shapes c.requires.orderable c.requires.plan (length-map c.args.layout.now.regs.items register_shape_of ∙ c.requires.sized)
    c.in-Ok.found c.in_ok-verdict_of-in-Ok.field-0 c.in-Ok.ensures.found
    (subst (λ (ws : List ℕ). IsDecoded ws (length c.args.system.now.outs.items) (length c.args.system.now.next.items) c.in-Ok.found c.in_ok-verdict_of-in-Ok.field-0) (widths-are shapes c.in_ok-places.ensures) c.in_ok-verdict_of-in-Ok.ensures)

pub returns-in-Ok-clause-fits : goal.returns-in-Ok-clause-fits
returns-in-Ok-clause-fits c = λ some.
    let shapes = shapes_of c.args.layout.now in
    let points = c.index-points.ensures ∙ first-cyclic shapes c.index-points.result.now c.in_ok-places.ensures some in
    omega (arith, points, (c.len.ensures ∙ c.args.plan.now.cyclic.ok.0), c.in_ok-arena.ensures.fits)

pub returns-in-Err-Budget-clause-budget : goal.returns-in-Err-Budget-clause-budget
returns-in-Err-Budget-clause-budget c = λ arena e.
    let shapes = shapes_of c.args.layout.now in
    let some = some-items c.args.plan.now.cyclic.items c.args.plan.now.cyclic.len c.args.plan.now.cyclic.ok.0 (sym c.is_empty.ensures ∙ c.if-is_empty.false) in
    let points = c.index-points.ensures ∙ first-cyclic shapes c.index-points.result.now c.in_ok-places.ensures some in
    let variables : c.index-points.result.now + c.len.result ≡ job_variables (equations_from c.args.system.now) shapes c.args.plan.now.cyclic.items = omega (arith, points, (c.len.ensures ∙ c.args.plan.now.cyclic.ok.0)) in
    let same : c.search.new.arena ≡ arena = cc in
    subst (IsStopped (equations_from c.args.system.now) shapes c.args.plan.now.cyclic.items c.args.budget) same
    (stopped (equations_from c.args.system.now) shapes c.args.plan.now.cyclic.items c.args.budget c.in_ok-arena.arena c.search.new.arena (length-map c.args.layout.now.regs.items register_shape_of ∙ c.requires.sized)
    (subst (λ (v : ℕ). IsEmpty v c.args.budget c.in_ok-arena.arena) variables c.in_ok-arena.ensures.empty) c.in-Err-Budget.ensures.adds (c.in-Err-Budget.ensures.budget (ap Err c.in-Err-Budget.field-0-is)))
