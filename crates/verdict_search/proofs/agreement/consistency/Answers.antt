use Rattle.std.proofs.Common.{◌≡◌, ◌<◌, ◌+◌, ◌*◌, ◌^◌, ℕ, length, set, get_or, Ok, sym, ap, ◌∙◌, subst, arith}
use Rattle.std.proofs.lemmas.Grind.{get_or_default_zero}
use Rattle.dd_core.specs.Functions.{both}
use Rattle.dd_core.specs.Arenas.{Makes, function_of}
use Rattle.dd_core.specs.declared.nodes.NodeId.{NodeId}
use Rattle.eqn_dd.proofs.Denotations.{adds_one, adds_in_turn}
use Rattle.verdict_search.specs.Parts.{part_of}
use Rattle.verdict_search.proofs.PartNodes.{start}
use Rattle.verdict_search.proofs.PartSteps.{defaults_of}
use Rattle.verdict_search.proofs.AgreeSteps.{AgreeSoFar, agree_none, agree_more, agree_all, parts_agree}
use Rattle.verdict_search.proofs.agreement.consistency.Goals as goal

pub loop-place-init : goal.loop-place-init
loop-place-init c =
    subst (AgreeSoFar c.args.arena.now c.args.points c.args.bits.now c.in_ok-labels.labels.items 0 c.args.arena.now) (sym (c.in_ok-consistent.ensures.items_if_clones_equal (λ y same. same)))
    (agree_none c.args.arena.now c.args.points c.args.bits.now c.in_ok-labels.labels.items c.requires.variables c.variables.ensures.arena)

pub loop-place-preserved : goal.loop-place-preserved
loop-place-preserved c =
    let before = c.loop-place.invariant in
    let labels = c.in_ok-labels.labels.items in
    let parts = c.loop-place.consistent.items in
    let sized = c.in_ok-labels.ensures.sized in
    let low = c.loop-place-test.true in
    let p = c.index-part.result.now in
    let at : p ≡ part_of labels c.loop-place.place = c.index-part.ensures ∙ get_or_default_zero labels c.loop-place.place p (omega arith) in
    let place : part_of labels c.loop-place.place < length c.args.bits.now = c.in_ok-labels.ensures.labelled c.loop-place.place 0 (omega arith) in
    let inside : p < length parts = omega (arith, before.sized) in
    let own : c.index.result.now ≡ get_or parts (part_of labels c.loop-place.place) start = c.index.ensures ∙ defaults_of parts p c.index.result.now start inside ∙ ap (λ (q : ℕ). get_or parts q start) at in
    let made = subst (λ (f : NodeId). Makes (2 ^ (c.agreeing.new.arena.variables + 1)) c.agreeing.new.arena c.and.new.self (both (function_of c.agreeing.new.arena f.0) (function_of c.agreeing.new.arena c.in_ok-same.same.0)) (Ok c.in_ok-consistent-2.field-0)) own c.in_ok-consistent-2.ensures.made in
    subst (λ (q : ℕ). AgreeSoFar c.args.arena.now c.args.points c.args.bits.now labels (c.loop-place.place + 1) c.and.new.self (set parts q c.in_ok-consistent-2.field-0)) (sym at)
    (agree_more c.args.bits.now labels c.requires.variables sized c.in_ok-labels.ensures.closed place low c.requires.bits before c.in_ok-same.ensures.adds c.in_ok-same.ensures.denotes made)

pub returns-clause-consistency : goal.returns-clause-consistency
returns-clause-consistency c = agree_all c.args.bits.now c.loop-place-test.false c.loop-place.invariant

pub returns-clause-parts : goal.returns-clause-parts
returns-clause-parts c = parts_agree c.args.bits.now c.requires.variables c.in_ok-labels.ensures.sized c.in_ok-labels.ensures.labelled c.loop-place.invariant

pub returns-in_err-same-clause-adds : goal.returns-in_err-same-clause-adds
returns-in_err-same-clause-adds c = adds_in_turn (4 * c.loop-place.place) 3 (4 * length c.args.bits.now) (omega arith) c.loop-place.invariant.adds c.agreeing.ensures.adds

pub returns-in_err-consistent-2-clause-adds : goal.returns-in_err-consistent-2-clause-adds
returns-in_err-consistent-2-clause-adds c =
    adds_in_turn (4 * c.loop-place.place + 3) 1 (4 * length c.args.bits.now) (omega arith) (adds_in_turn (4 * c.loop-place.place) 3 (4 * c.loop-place.place + 3) (omega arith) c.loop-place.invariant.adds c.in_ok-same.ensures.adds) (adds_one c.and.ensures.made)
