use Rattle.std.proofs.Common.{◌≡◌, ◌+◌, ◌<◌, ◌^◌, List, Ok, false, length, get_or, refl, sym, ap, ◌∙◌, subst, arith}
use Rattle.dd_core.specs.declared.nodes.NodeId.{NodeId}
use Rattle.dd_core.specs.Functions.{both}
use Rattle.dd_core.specs.Arenas.{Makes, function_of}
use Rattle.eqn_dd.proofs.Denotations.{adds_one, adds_in_turn}
use Rattle.verdict_search.proofs.BadPoints.{NearSoFar, near_none, near_more, near_skipped, near_all}
use Rattle.verdict_search.proofs.PartNodes.{start}
use Rattle.verdict_search.proofs.PartSteps.{defaults_of}
use Rattle.verdict_search.proofs.testing.near.Goals.{then-index+in_ok-met, else-index}
use Rattle.verdict_search.proofs.testing.near.Goals as goal

pub loop-part-init : goal.loop-part-init
loop-part-init c = near_none c.args.arena.now c.args.parts.now.consistent.items c.in_ok-flags.flags.items c.variables.ensures.arena

pub returns-in_err-met-clause-adds : goal.returns-in_err-met-clause-adds
returns-in_err-met-clause-adds c =
    let same = ap length c.deref-f-items.ensures.value in
    adds_in_turn c.loop-part.part 1 (length c.args.parts.now.consistent.items) (omega (arith, same)) c.loop-part.invariant.adds (adds_one c.and.ensures.made)

pub loop-part-preserved : goal.loop-part-preserved
loop-part-preserved c =
    let fs = c.args.parts.now.consistent.items in
    let flags = c.in_ok-flags.flags.items in
    let part = c.loop-part.part in
    let value = c.deref-f-items.ensures.value in
    let same = ap length value in
    let low : part < length fs = omega (arith, same) in
    let sized = c.in_ok-flags.ensures.sized in
    let flag : get_or flags part false ≡ c.index.result.now = defaults_of flags part false c.index.result.now (omega arith) ∙ sym c.index.ensures in
    elim c.if-index.branch [
      | then-index+in_ok-met w ↦
          let made = subst (λ (l : List NodeId). Makes (2 ^ (c.loop-part.arena.variables + 1)) c.loop-part.arena w.and.new.self (both (function_of c.loop-part.arena c.loop-part.met.0) (function_of c.loop-part.arena (get_or l part start).0)) (Ok w.in_ok-met.met)) value w.in_ok-met.ensures.made in
          subst (λ A. NearSoFar c.args.arena.now fs flags (part + 1) A c.if-index.met.0) (sym w.arena-is)
          (subst (λ (m : NodeId). NearSoFar c.args.arena.now fs flags (part + 1) w.and.new.self m.0) (sym w.met-is)
          (near_more fs flags (get_or fs part start) low sized c.requires.held refl (flag ∙ w.if-index.true) c.loop-part.invariant made))
      | else-index w ↦
          subst (λ A. NearSoFar c.args.arena.now fs flags (part + 1) A c.if-index.met.0) (sym w.arena-is)
          (subst (λ (m : NodeId). NearSoFar c.args.arena.now fs flags (part + 1) c.loop-part.arena m.0) (sym w.met-is)
          (near_skipped fs flags low sized (flag ∙ w.if-index.false) c.loop-part.invariant))
    ]

pub returns-clause-near : goal.returns-clause-near
returns-clause-near c =
    let same = ap length c.deref-f-items.ensures.value in
    near_all c.in_ok-flags.flags.items c.in_ok-flags.ensures.sized c.in_ok-flags.ensures.chosen (omega (arith, same, c.loop-part-test.false)) c.loop-part.invariant
