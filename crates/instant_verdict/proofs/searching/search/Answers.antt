use Rattle.std.proofs.Common.{◌+◌, ◌*◌, ◌<◌, ◌≤◌, ℕ, List, ◌++◌, All, map, length, flat_map, slice_index_or, [], sym, ap, ◌∙◌, subst, arith}
use Rattle.std.proofs.lemmas.List.{length-map}
use Rattle.argos_core.specs.Layouts.{RegisterShape}
use Rattle.argos_core.specs.Views.{shapes_of, register_shape_of}
use Rattle.dd_core.specs.declared.nodes.NodeId.{NodeId}
use Rattle.dd_core.specs.Arenas.{Holds}
use Rattle.dd_core.proofs.Composing.{Keeps-trans}
use Rattle.eqn_completion.specs.Findings.{Finding}
use Rattle.eqn_core.specs.Equations.{registers, word_count}
use Rattle.eqn_core.specs.Views.{equations_from}
use Rattle.eqn_verdict.specs.Searching.{Test}
use Rattle.eqn_verdict.proofs.Fitting.{widths_are_enough}
use Rattle.instant_verdict.specs.inner.Searched.{node_or_false}
use Rattle.instant_verdict.proofs.SearchSteps.{verdict-found, registers-sized, places-named, registers-named, cyclic-exist, held-later, words-later, listed-held, results-held, results-sized, between-all, made-few, agreed-few, making, agreeing, finding, both-ok}
use Rattle.verdict_search.specs.Consistency.{IsConsistency}
use Rattle.verdict_search.specs.Outcomes.{IsFound, AreSized}
use Rattle.verdict_search.specs.Splitting.{AreSearched}
use Rattle.instant_verdict.proofs.searching.search.Goals as goal

pub diagrams_of-requires-clause-places : goal.diagrams_of-requires-clause-places
diagrams_of-requires-clause-places c =
    places-named (equations_from c.args.system.now) c.args.plan.now.cyclic.items (shapes_of c.args.layout.now) c.requires.places
    (length-map c.args.layout.now.regs.items register_shape_of ∙ c.requires.sized) c.requires.variables

pub structural-requires-clause-sized : goal.structural-requires-clause-sized
structural-requires-clause-sized c = registers-sized (shapes_of c.args.layout.now) c.requires.places ∙ length-map c.args.layout.now.regs.items register_shape_of

pub structural-requires-clause-places : goal.structural-requires-clause-places
structural-requires-clause-places c =
    registers-named (equations_from c.args.system.now) c.args.plan.now.cyclic.items (shapes_of c.args.layout.now) c.requires.places
    (c.in_ok-bits.ensures.adds.keeps.variables ∙ c.requires.variables)

pub listed-requires : goal.listed-requires
listed-requires c =
    let n = c.in_ok-bits.ensures.bits in
    subst (λ (ks : List ℕ). All (λ (k : ℕ). k < length c.deref-2.result.now) ks) (sym c.deref-3.ensures.value)
    (subst (λ (most : ℕ). All (λ (k : ℕ). k < most) c.args.plan.now.cyclic.items) (sym (ap length c.deref-2.ensures.value ∙ n)) (cyclic-exist c.requires.orderable c.requires.plan))

pub returns-in_err-fitting-clause-adds : goal.returns-in_err-fitting-clause-adds
returns-in_err-fitting-clause-adds c =
    let e = equations_from c.args.system.now in
    let shapes = shapes_of c.args.layout.now in
    let cyclic = c.args.plan.now.cyclic.items in
    made-few e shapes cyclic (making e shapes cyclic c.requires.variables c.requires.sized c.in_ok-bits.ensures.adds c.structural.ensures.adds)

pub returns-in_err-given-clause-adds : goal.returns-in_err-given-clause-adds
returns-in_err-given-clause-adds c =
    let e = equations_from c.args.system.now in
    let shapes = shapes_of c.args.layout.now in
    let cyclic = c.args.plan.now.cyclic.items in
    made-few e shapes cyclic (making e shapes cyclic c.requires.variables c.requires.sized c.in_ok-bits.ensures.adds c.in_ok-fitting.ensures.adds)

pub consistency-requires-clause-bits : goal.consistency-requires-clause-bits
consistency-requires-clause-bits c =
    let bits = c.in_ok-bits.field-0.bits.items in
    let given = c.deref-4.ensures.value ∙ c.in_ok-given.ensures ∙ ap (λ (bs : List NodeId). map (node_or_false bs) c.deref-3.result.now) c.deref-2.ensures.value ∙ ap (map (node_or_false bits)) c.deref-3.ensures.value in
    let held = held-later bits c.in_ok-fitting.ensures.adds.keeps c.in_ok-bits.ensures.denote.bits_held in
    subst (λ (fs : List NodeId). All (λ (f : NodeId). Holds c.structural.new.arena f.0) fs) (sym given) (listed-held c.structural.new.arena bits c.args.plan.now.cyclic.items held)

pub returns-in_err-parts-clause-adds : goal.returns-in_err-parts-clause-adds
returns-in_err-parts-clause-adds c =
    let e = equations_from c.args.system.now in
    let shapes = shapes_of c.args.layout.now in
    let cyclic = c.args.plan.now.cyclic.items in
    let bits = c.in_ok-bits.field-0.bits.items in
    let given = c.deref-4.ensures.value ∙ c.in_ok-given.ensures ∙ ap (λ (bs : List NodeId). map (node_or_false bs) c.deref-3.result.now) c.deref-2.ensures.value ∙ ap (map (node_or_false bits)) c.deref-3.ensures.value in
    let made = making e shapes cyclic c.requires.variables c.requires.sized c.in_ok-bits.ensures.adds c.in_ok-fitting.ensures.adds in
    agreed-few e shapes cyclic (agreeing e shapes cyclic (ap length given ∙ length-map cyclic (node_or_false bits)) made c.consistency.ensures.adds)

pub returns-in_err-results-clause-adds : goal.returns-in_err-results-clause-adds
returns-in_err-results-clause-adds c =
    let e = equations_from c.args.system.now in
    let shapes = shapes_of c.args.layout.now in
    let cyclic = c.args.plan.now.cyclic.items in
    let bits = c.in_ok-bits.field-0.bits.items in
    let given = c.deref-4.ensures.value ∙ c.in_ok-given.ensures ∙ ap (λ (bs : List NodeId). map (node_or_false bs) c.deref-3.result.now) c.deref-2.ensures.value ∙ ap (map (node_or_false bits)) c.deref-3.ensures.value in
    let made = making e shapes cyclic c.requires.variables c.requires.sized c.in_ok-bits.ensures.adds c.in_ok-fitting.ensures.adds in
    agreed-few e shapes cyclic (agreeing e shapes cyclic (ap length given ∙ length-map cyclic (node_or_false bits)) made c.in_ok-parts.ensures.adds)

pub find-requires-clause-results : goal.find-requires-clause-results
find-requires-clause-results c =
    let bits = c.in_ok-bits.field-0.bits.items in
    let words = c.in_ok-bits.field-0.words.items in
    let outs = c.args.system.now.outs.items in
    let next = c.args.system.now.next.items in
    let results = c.deref-7.ensures.value ∙ c.in_ok-results.ensures
    ∙ ap (λ (bs : List NodeId). map (node_or_false bs) outs ++ flat_map (λ (k : ℕ). slice_index_or (map (λ w. w.items) c.deref-6.result.now) k []) next) c.deref-5.ensures.value
    ∙ ap (λ ws. map (node_or_false bits) outs ++ flat_map (λ (k : ℕ). slice_index_or (map (λ w. w.items) ws) k []) next) c.deref-6.ensures.value in
    let keeps = Keeps-trans _ _ _ c.in_ok-fitting.ensures.adds.keeps c.in_ok-parts.ensures.adds.keeps in
    let denote = c.in_ok-bits.ensures.denote in
    subst (λ (fs : List NodeId). All (λ (f : NodeId). Holds c.consistency.new.arena f.0) fs) (sym results)
    (results-held c.consistency.new.arena bits (map (λ w. w.items) words) outs next (held-later bits keeps denote.bits_held) (words-later (map (λ w. w.items) words) keeps denote.words_held))

pub returns-clause-adds : goal.returns-clause-adds
returns-clause-adds c =
    let e = equations_from c.args.system.now in
    let shapes = shapes_of c.args.layout.now in
    let cyclic = c.args.plan.now.cyclic.items in
    let bits = c.in_ok-bits.field-0.bits.items in
    let words = c.in_ok-bits.field-0.words.items in
    let outs = c.args.system.now.outs.items in
    let next = c.args.system.now.next.items in
    let given = c.deref-4.ensures.value ∙ c.in_ok-given.ensures ∙ ap (λ (bs : List NodeId). map (node_or_false bs) c.deref-3.result.now) c.deref-2.ensures.value ∙ ap (map (node_or_false bits)) c.deref-3.ensures.value in
    let made = making e shapes cyclic c.requires.variables c.requires.sized c.in_ok-bits.ensures.adds c.in_ok-fitting.ensures.adds in
    let agreed = agreeing e shapes cyclic (ap length given ∙ length-map cyclic (node_or_false bits)) made c.in_ok-parts.ensures.adds in
    let results = c.deref-7.ensures.value ∙ c.in_ok-results.ensures
    ∙ ap (λ (bs : List NodeId). map (node_or_false bs) outs ++ flat_map (λ (k : ℕ). slice_index_or (map (λ w. w.items) c.deref-6.result.now) k []) next) c.deref-5.ensures.value
    ∙ ap (λ ws. map (node_or_false bits) outs ++ flat_map (λ (k : ℕ). slice_index_or (map (λ w. w.items) ws) k []) next) c.deref-6.ensures.value in
    let exist = subst (λ (n : ℕ). All (λ (k : ℕ). k < n) next) (sym (length-map words (λ w. w.items) ∙ c.in_ok-bits.ensures.words)) (between-all (registers e) (word_count e) next c.requires.orderable.next_exist) in
    let sized = ap length results ∙ results-sized _ bits (map (λ w. w.items) words) outs next c.in_ok-bits.ensures.denote.words_held exist in
    let next-sized = c.requires.orderable.next_sized in
    let keeps = Keeps-trans _ _ _ c.in_ok-bits.ensures.adds.keeps (Keeps-trans _ _ _ c.in_ok-fitting.ensures.adds.keeps c.in_ok-parts.ensures.adds.keeps) in
    let variables = keeps.variables in
    finding e shapes cyclic c.requires.points (omega (arith, variables, c.requires.variables, c.requires.points)) (omega (arith, sized, next-sized)) agreed c.find.ensures.adds

pub returns-clause-found : goal.returns-clause-found
returns-clause-found c =
    let e = equations_from c.args.system.now in
    let shapes = shapes_of c.args.layout.now in
    let cyclic = c.args.plan.now.cyclic.items in
    let bits = c.in_ok-bits.field-0.bits.items in
    let words = c.in_ok-bits.field-0.words.items in
    let outs = c.args.system.now.outs.items in
    let next = c.args.system.now.next.items in
    let given = c.deref-4.ensures.value ∙ c.in_ok-given.ensures ∙ ap (λ (bs : List NodeId). map (node_or_false bs) c.deref-3.result.now) c.deref-2.ensures.value ∙ ap (map (node_or_false bits)) c.deref-3.ensures.value in
    let results = c.deref-7.ensures.value ∙ c.in_ok-results.ensures
    ∙ ap (λ (bs : List NodeId). map (node_or_false bs) outs ++ flat_map (λ (k : ℕ). slice_index_or (map (λ w. w.items) c.deref-6.result.now) k []) next) c.deref-5.ensures.value
    ∙ ap (λ ws. map (node_or_false bits) outs ++ flat_map (λ (k : ℕ). slice_index_or (map (λ w. w.items) ws) k []) next) c.deref-6.ensures.value in
    let exist = subst (λ (n : ℕ). All (λ (k : ℕ). k < n) next) (sym (length-map words (λ w. w.items) ∙ c.in_ok-bits.ensures.words)) (between-all (registers e) (word_count e) next c.requires.orderable.next_exist) in
    let long = ap length results ∙ results-sized _ bits (map (λ w. w.items) words) outs next c.in_ok-bits.ensures.denote.words_held exist in
    let points = c.requires.points in
    both-ok c.find.result _ _ _ (λ found sized is.
    verdict-found e cyclic shapes c.args.places.now c.requires.orderable (length-map c.args.layout.now.regs.items register_shape_of ∙ c.requires.sized)
    (widths_are_enough shapes (subst (λ regs. All (λ (r : RegisterShape). r.top ≤ 65535) (map register_shape_of regs)) c.deref.ensures.value c.greatest_codes.ensures)) c.requires.places
    _ _ _ bits (map (λ w. w.items) words) c.in_ok-fitting.fitting c.in_ok-parts.parts.consistent.items found
    (c.in_ok-bits.ensures.adds.keeps.variables ∙ c.requires.variables) c.in_ok-fitting.ensures.adds.arena c.in_ok-parts.ensures.adds.arena
    c.in_ok-fitting.ensures.adds.keeps c.in_ok-parts.ensures.adds.keeps c.in_ok-bits.ensures.denote c.in_ok-fitting.ensures.denotes
    (subst (λ (n : ℕ). IsConsistency c.structural.new.arena c.consistency.new.arena n (map (node_or_false bits) cyclic) c.in_ok-parts.parts.consistent.items) points
    (subst (λ (fs : List NodeId). IsConsistency c.structural.new.arena c.consistency.new.arena c.args.points fs c.in_ok-parts.parts.consistent.items) given c.in_ok-parts.ensures.consistency))
    (subst (λ (n : ℕ). AreSized n (length outs + 16 * length next) found) points (subst (λ (r : ℕ). AreSized c.args.points r found) long sized))
    (subst (λ (n : ℕ). (k : ℕ) (s : Test) (K : Finding) (gs : List Finding) → AreSearched c.consistency.new.arena n k c.in_ok-fitting.fitting.0 c.in_ok-parts.parts.consistent.items (map (node_or_false bits) outs ++ flat_map (λ (k : ℕ). slice_index_or (map (λ w. w.items) words) k []) next) s K gs → IsFound n k s K gs found) points
    (subst (λ (fs : List NodeId). (k : ℕ) (s : Test) (K : Finding) (gs : List Finding) → AreSearched c.consistency.new.arena c.args.points k c.in_ok-fitting.fitting.0 c.in_ok-parts.parts.consistent.items fs s K gs → IsFound c.args.points k s K gs found) results is)))
    c.find.ensures.sized c.find.ensures.found
