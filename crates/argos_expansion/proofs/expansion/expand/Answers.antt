use Rattle.std.proofs.Common.{◌≡◌, ◌+◌, [], ◌∷◌, ◌++◌, map, length, sym, ap, ◌∙◌, subst, arith}
use Rattle.std.specs.List.{range_with_len}
use Rattle.std.proofs.lemmas.Grind.{common_steps}
use Rattle.std.proofs.lemmas.List.{length-map}
use Rattle.argos_core.specs.Process.{Process}
use Rattle.argos_core.specs.Views.{process_of, numbers}
use Rattle.argos_grammar.specs.Views.{mark_of, component_of}
use Rattle.argos_expansion.specs.Expansion.{Visit, Grown, expansion}
use Rattle.argos_expansion.specs.inner.Growing.{moment_of}
use Rattle.argos_expansion.specs.inner.Growth.{Moment, HasGrown, IsStop, first_passed, tally_of}
use Rattle.argos_expansion.specs.inner.Placing.{placed_components, placed_main, signal_count}
use Rattle.argos_expansion.specs.inner.ShapeGrowth.{growths_of, block_growth}
use Rattle.argos_expansion.specs.inner.Shapes.{block_shape, component_shape}
use Rattle.argos_expansion.proofs.FirstPassed.{tally_at, err_limit}
use Rattle.argos_expansion.proofs.Growing.{stops_here}
use Rattle.argos_expansion.proofs.Last.{main_at, main_signals, main_same, expansion_last, main_stops, main_whole, main_locals, main_within}
use Rattle.argos_expansion.proofs.Nodes.{header_node}
use Rattle.argos_expansion.proofs.expansion.expand.Goals as goal

pub returns-in_err-visit-clause-limit : goal.returns-in_err-visit-clause-limit
returns-in_err-visit-clause-limit c =
    let cs = c.args.components.now in
    let earlier = c.in-Some.earlier.now in
    let main = c.in-Some.main.now in
    let parts : cs ≡ earlier ++ main ∷ [] = c.in-Some.ensures.cases.0 in
    let inputs = length-map main.inputs.items mark_of in
    let outputs = length-map main.outputs.items mark_of in
    let count : c.in_ok-count.count ≡ length (component_of main).inputs + length (component_of main).outputs = grind (arith, common_steps) in
    let node = header_node (component_of main) c.in_ok-count.count count in
    let v = (c.in_err-visit.ensures {u = tt}).limit in
    let e = c.in_err-visit.field-0.0 in
    let vs = (main_at earlier main (main_signals main)).visits in
    err_limit (expansion (map component_of cs)).visits c.from_residual-in_err-visit.result e c.from_residual-in_err-visit.ensures.1
    (subst (λ (g : Grown Process). IsStop (first_passed (tally_at []) g.visits) e) (sym (expansion_last cs earlier main parts))
    (subst (λ (u : Visit). IsStop (first_passed (tally_at []) (u ∷ vs)) e) node (stops_here (tally_at []) _ vs e v)))

pub returns-in_err-prog-clause-limit : goal.returns-in_err-prog-clause-limit
returns-in_err-prog-clause-limit c =
    let cs = c.args.components.now in
    let earlier = c.in-Some.earlier.now in
    let main = c.in-Some.main.now in
    let parts : cs ≡ earlier ++ main ∷ [] = c.in-Some.ensures.cases.0 in
    let inputs = length-map main.inputs.items mark_of in
    let outputs = length-map main.outputs.items mark_of in
    let count : c.in_ok-count.count ≡ length (component_of main).inputs + length (component_of main).outputs = grind (arith, common_steps) in
    let node = header_node (component_of main) c.in_ok-count.count count in
    let v = c.in_ok-visit.ensures {u = tt} in
    let mid : Moment = record { tally = tally_of c.visit.new.self; locals = c.new-2.result.items } in
    let sigs : numbers c.deref-2.result.now ≡ 0 ∷ range_with_len 0 (signal_count (component_of main)) = ap numbers c.deref-2.ensures.value ∙ c.in_ok-signals.ensures {u = tt} ∙ ap (λ k. 0 ∷ range_with_len 0 k) count in
    let parts_before : map component_shape c.deref.result.now ≡ placed_components [] (map component_of earlier) = ap (map component_shape) c.deref.ensures.value ∙ (c.in_ok-placed.ensures {u = tt}).components in
    let block : block_shape c.deref-3.result.now ≡ placed_main (map (λ d. d.name.name) (map component_of earlier)) (component_of main) = ap block_shape c.deref-3.ensures.value ∙ (c.in_ok-placed.ensures {u = tt}).block in
    let same = main_same earlier main c.deref.result.now (numbers c.deref-2.result.now) c.deref-3.result.now mid.tally.signals parts_before sigs block in
    let e = c.in_err-prog.field-0.0 in
    let h : IsStop (first_passed mid.tally (block_growth (growths_of c.deref.result.now) (numbers c.deref-2.result.now) 1 mid.tally.signals (block_shape c.deref-3.result.now)).visits) e = c.in_err-prog.ensures {u = tt} in
    let f = subst (λ (g : Grown Process). IsStop (first_passed mid.tally g.visits) e) same h in
    err_limit (expansion (map component_of cs)).visits c.from_residual-in_err-prog.result e c.from_residual-in_err-prog.ensures.1
    (main_stops cs earlier main parts _ node mid v.limit v.counted e f)

pub returns-clause-expansion : goal.returns-clause-expansion
returns-clause-expansion c =
    let cs = c.args.components.now in
    let earlier = c.in-Some.earlier.now in
    let main = c.in-Some.main.now in
    let parts : cs ≡ earlier ++ main ∷ [] = c.in-Some.ensures.cases.0 in
    let inputs = length-map main.inputs.items mark_of in
    let outputs = length-map main.outputs.items mark_of in
    let count : c.in_ok-count.count ≡ length (component_of main).inputs + length (component_of main).outputs = grind (arith, common_steps) in
    let node = header_node (component_of main) c.in_ok-count.count count in
    let v = c.in_ok-visit.ensures {u = tt} in
    let mid : Moment = record { tally = tally_of c.visit.new.self; locals = c.new-2.result.items } in
    let sigs : numbers c.deref-2.result.now ≡ 0 ∷ range_with_len 0 (signal_count (component_of main)) = ap numbers c.deref-2.ensures.value ∙ c.in_ok-signals.ensures {u = tt} ∙ ap (λ k. 0 ∷ range_with_len 0 k) count in
    let parts_before : map component_shape c.deref.result.now ≡ placed_components [] (map component_of earlier) = ap (map component_shape) c.deref.ensures.value ∙ (c.in_ok-placed.ensures {u = tt}).components in
    let block : block_shape c.deref-3.result.now ≡ placed_main (map (λ d. d.name.name) (map component_of earlier)) (component_of main) = ap block_shape c.deref-3.ensures.value ∙ (c.in_ok-placed.ensures {u = tt}).block in
    let same = main_same earlier main c.deref.result.now (numbers c.deref-2.result.now) c.deref-3.result.now mid.tally.signals parts_before sigs block in
    let new = moment_of c.block.new.self in
    let made = process_of c.in_ok-prog.prog in
    let h : HasGrown (block_growth (growths_of c.deref.result.now) (numbers c.deref-2.result.now) 1 mid.tally.signals (block_shape c.deref-3.result.now)) made mid new = c.in_ok-prog.ensures {u = tt} in
    let f = subst (λ (g : Grown Process). HasGrown g made mid new) same h in
    (main_whole cs earlier main parts _ node mid v.limit v.counted c.new-2.ensures.items new made f, main_locals cs earlier main parts _ node mid v.limit v.counted c.new-2.ensures.items new made f, main_within cs earlier main parts _ node mid v.limit v.counted c.new-2.ensures.items new made f)
