use Rattle.std.proofs.Common.{◌≡◌, ◌-◌, ◌<◌, ◌≤◌, ℕ, List, All, map, length, sym, ap, ◌∙◌, subst, arith}
use Rattle.std.proofs.lemmas.List.{length-map}
use Rattle.argos_core.specs.Layouts.{RegisterShape}
use Rattle.argos_core.specs.Views.{shapes_of, register_shape_of}
use Rattle.dd_core.specs.declared.nodes.NodeId.{NodeId}
use Rattle.dd_core.specs.Arenas.{Holds}
use Rattle.eqn_core.specs.Views.{equations_from}
use Rattle.eqn_verdict.proofs.Fitting.{widths_are_enough}
use Rattle.instant_verdict.specs.inner.Searched.{node_or_false}
use Rattle.instant_verdict.proofs.SearchSteps.{registers-sized, places-named, registers-named, cyclic-exist, held-later, listed-held, making, agreeing}
use Rattle.verdict_search.specs.Consistency.{IsConsistency}
use Rattle.verdict_search.specs.Roots.{AreLeastOnes}
use Rattle.cycle_solve.proofs.RootsFound.{roots-found, made-few, agreed-few, solving, all-ok}
use Rattle.cycle_solve.proofs.roots.cycle_roots.Goals as goal

pub diagrams_of-requires-clause-places : goal.diagrams_of-requires-clause-places
diagrams_of-requires-clause-places c =
    places-named (equations_from c.args.system.now) c.args.plan.now.cyclic.items
    (shapes_of c.args.layout.now) c.requires.places
    (length-map c.args.layout.now.regs.items register_shape_of ∙ c.requires.sized) c.requires.variables

pub structural-requires-clause-sized : goal.structural-requires-clause-sized
structural-requires-clause-sized c = registers-sized (shapes_of c.args.layout.now) c.requires.places
    ∙ length-map c.args.layout.now.regs.items register_shape_of

pub structural-requires-clause-places : goal.structural-requires-clause-places
structural-requires-clause-places c =
    registers-named (equations_from c.args.system.now) c.args.plan.now.cyclic.items
    (shapes_of c.args.layout.now) c.requires.places
    (c.in_ok-diagrams.ensures.adds.keeps.variables ∙ c.requires.variables)

pub listed-requires : goal.listed-requires
listed-requires c =
    let n = c.in_ok-diagrams.ensures.bits in
    subst (λ (ks : List ℕ). All (λ (k : ℕ). k < length c.deref-2.result.now) ks) (sym c.deref-3.ensures.value)
    (subst (λ (most : ℕ). All (λ (k : ℕ). k < most) c.args.plan.now.cyclic.items) (sym
    (ap length c.deref-2.ensures.value ∙ n)) (cyclic-exist c.requires.orderable c.requires.plan))

pub returns-in_err-fitting-clause-adds : goal.returns-in_err-fitting-clause-adds
returns-in_err-fitting-clause-adds c =
    let e = equations_from c.args.system.now in
    let shapes = shapes_of c.args.layout.now in
    let cyclic = c.args.plan.now.cyclic.items in
    made-few e shapes cyclic (making e shapes cyclic c.requires.variables c.requires.sized
    c.in_ok-diagrams.ensures.adds c.structural.ensures.adds)

pub returns-in_err-given-clause-adds : goal.returns-in_err-given-clause-adds
returns-in_err-given-clause-adds c =
    let e = equations_from c.args.system.now in
    let shapes = shapes_of c.args.layout.now in
    let cyclic = c.args.plan.now.cyclic.items in
    made-few e shapes cyclic (making e shapes cyclic c.requires.variables c.requires.sized
    c.in_ok-diagrams.ensures.adds c.in_ok-fitting.ensures.adds)

pub consistency-requires-clause-bits : goal.consistency-requires-clause-bits
consistency-requires-clause-bits c =
    let bits = c.in_ok-diagrams.diagrams.bits.items in
    let given = c.deref-4.ensures.value ∙ c.in_ok-given.ensures
    ∙ ap (λ (bs : List NodeId). map (node_or_false bs) c.deref-3.result.now) c.deref-2.ensures.value
    ∙ ap (map (node_or_false bits)) c.deref-3.ensures.value in
    let held = held-later bits c.in_ok-fitting.ensures.adds.keeps c.in_ok-diagrams.ensures.denote.bits_held in
    subst (λ (fs : List NodeId). All (λ (f : NodeId). Holds c.structural.new.arena f.0) fs) (sym given)
    (listed-held c.structural.new.arena bits c.args.plan.now.cyclic.items held)

pub returns-in_err-parts-clause-adds : goal.returns-in_err-parts-clause-adds
returns-in_err-parts-clause-adds c =
    let e = equations_from c.args.system.now in
    let shapes = shapes_of c.args.layout.now in
    let cyclic = c.args.plan.now.cyclic.items in
    let bits = c.in_ok-diagrams.diagrams.bits.items in
    let given = c.deref-4.ensures.value ∙ c.in_ok-given.ensures
    ∙ ap (λ (bs : List NodeId). map (node_or_false bs) c.deref-3.result.now) c.deref-2.ensures.value
    ∙ ap (map (node_or_false bits)) c.deref-3.ensures.value in
    let made = making e shapes cyclic c.requires.variables c.requires.sized c.in_ok-diagrams.ensures.adds
    c.in_ok-fitting.ensures.adds in
    agreed-few e shapes cyclic (agreeing e shapes cyclic (ap length given
    ∙ length-map cyclic (node_or_false bits)) made c.consistency.ensures.adds)

pub returns-clause-adds : goal.returns-clause-adds
returns-clause-adds c =
    let e = equations_from c.args.system.now in
    let shapes = shapes_of c.args.layout.now in
    let cyclic = c.args.plan.now.cyclic.items in
    let bits = c.in_ok-diagrams.diagrams.bits.items in
    let given = c.deref-4.ensures.value ∙ c.in_ok-given.ensures
    ∙ ap (λ (bs : List NodeId). map (node_or_false bs) c.deref-3.result.now) c.deref-2.ensures.value
    ∙ ap (map (node_or_false bits)) c.deref-3.ensures.value in
    let made = making e shapes cyclic c.requires.variables c.requires.sized c.in_ok-diagrams.ensures.adds
    c.in_ok-fitting.ensures.adds in
    let agreed = agreeing e shapes cyclic (ap length given
    ∙ length-map cyclic (node_or_false bits)) made c.in_ok-parts.ensures.adds in
    solving e shapes cyclic (omega (arith, agreed.keeps.variables, c.requires.variables, c.requires.points))
    agreed c.least_roots.ensures.adds

pub returns-clause-roots : goal.returns-clause-roots
returns-clause-roots c =
    let e = equations_from c.args.system.now in
    let shapes = shapes_of c.args.layout.now in
    let cyclic = c.args.plan.now.cyclic.items in
    let bits = c.in_ok-diagrams.diagrams.bits.items in
    let words = c.in_ok-diagrams.diagrams.words.items in
    let points = c.requires.points in
    let fitting = c.in_ok-fitting.fitting in
    let consistent = c.in_ok-parts.parts.consistent.items in
    let given = c.deref-4.ensures.value ∙ c.in_ok-given.ensures
    ∙ ap (λ (bs : List NodeId). map (node_or_false bs) c.deref-3.result.now) c.deref-2.ensures.value
    ∙ ap (map (node_or_false bits)) c.deref-3.ensures.value in
    let agree = subst (λ (n : ℕ). IsConsistency c.structural.new.arena c.consistency.new.arena n (map
    (node_or_false bits) cyclic) consistent) points
    (subst (λ (fs : List NodeId). IsConsistency c.structural.new.arena c.consistency.new.arena c.args.points fs
    consistent) given c.in_ok-parts.ensures.consistency) in
    all-ok c.least_roots.result _ _ _ _ (λ roots sized held least.
    roots-found e c.args.plan.now.order.items cyclic shapes c.args.places.now c.requires.orderable
    c.requires.plan (length-map c.args.layout.now.regs.items register_shape_of ∙ c.requires.sized)
    (widths_are_enough shapes (subst (λ regs. All (λ (r : RegisterShape). r.top ≤ 65535)
    (map register_shape_of regs)) c.deref.ensures.value c.greatest_codes.ensures)) c.requires.places
    c.diagrams_of.new.arena c.structural.new.arena c.consistency.new.arena c.least_roots.new.arena bits (map
    (λ w. w.items) words) fitting consistent roots.items c.requires.reacts
    (c.in_ok-diagrams.ensures.adds.keeps.variables
    ∙ c.requires.variables) c.in_ok-fitting.ensures.adds.arena c.least_roots.ensures.adds.arena
    c.in_ok-fitting.ensures.adds.keeps c.in_ok-parts.ensures.adds.keeps c.least_roots.ensures.adds.keeps
    c.in_ok-diagrams.ensures.denote c.in_ok-fitting.ensures.denotes agree
    (subst (λ (n : ℕ). length roots.items ≡ c.consistency.new.arena.variables - n) points sized) held
    (subst (λ (n : ℕ). AreLeastOnes c.consistency.new.arena c.least_roots.new.arena n fitting.0 consistent
    roots.items) points least))
    c.least_roots.ensures.sized c.least_roots.ensures.held c.least_roots.ensures.least
