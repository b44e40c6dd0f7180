use Rattle.std.proofs.Common.{◌≡◌, [], ℕ, List, length, map, take, slice_index_or, sym, ap, ◌∙◌, subst, arith}
use Rattle.std.proofs.lemmas.List.{length-map, take-map}
use Rattle.std.specs.List.{range_with_len}
use Rattle.argos_core.specs.Views.{shapes_of}
use Rattle.bisim_check.specs.declared.diagrams.ProgramDiagrams.{ProgramDiagrams}
use Rattle.bisim_check.specs.inner.Nodes.{AreDrawn}
use Rattle.eqn_core.specs.Equations.{Equations, registers, bit_count, word_count, weight_of}
use Rattle.eqn_core.specs.Ordered.{IsOrdered}
use Rattle.eqn_core.specs.Views.{line_of, equations_from}
use Rattle.eqn_dd.specs.Completed.{DenoteCompletions}
use Rattle.bisim_check.proofs.DrawnPrograms.{drawable, drawn, exist-below, exist-between, adds-both}
use Rattle.bisim_check.proofs.diagrams.program_diagrams.Goals as goal

pub diagrams_of-requires-clause-drawable : goal.diagrams_of-requires-clause-drawable
diagrams_of-requires-clause-drawable c =
    let e = equations_from c.system-system.result.now in
    let lines = c.system-system.result.now.lines in
    let count : c.len.result ≡ length e.lines = omega (arith, c.len.ensures, lines.ok.0, length-map lines.items line_of) in
    drawable (subst IsOrdered (sym c.system-system.ensures.system) c.system-system.ensures.ordered)
    (c.in_ok-plan.ensures.order ∙ ap (range_with_len 0) count) c.in_ok-plan.ensures.cyclic

pub returns-in_err-structural-clause-adds : goal.returns-in_err-structural-clause-adds
returns-in_err-structural-clause-adds c =
    adds-both _ (weight_of c.args.ordered.now) _ (registers c.args.ordered.now)
    (ap weight_of c.system-system.ensures.system) c.requires.sized c.in_ok-bits.ensures.adds c.structural.ensures.adds

pub returns-in_err-next-clause-adds : goal.returns-in_err-next-clause-adds
returns-in_err-next-clause-adds c =
    adds-both _ (weight_of c.args.ordered.now) _ (registers c.args.ordered.now)
    (ap weight_of c.system-system.ensures.system) c.requires.sized c.in_ok-bits.ensures.adds c.in_ok-structural.ensures.adds

pub returns-in_err-outputs-clause-adds : goal.returns-in_err-outputs-clause-adds
returns-in_err-outputs-clause-adds c =
    adds-both _ (weight_of c.args.ordered.now) _ (registers c.args.ordered.now)
    (ap weight_of c.system-system.ensures.system) c.requires.sized c.in_ok-bits.ensures.adds c.in_ok-structural.ensures.adds

pub returns-clause-adds : goal.returns-clause-adds
returns-clause-adds c =
    adds-both _ (weight_of c.args.ordered.now) _ (registers c.args.ordered.now)
    (ap weight_of c.system-system.ensures.system) c.requires.sized c.in_ok-bits.ensures.adds c.in_ok-structural.ensures.adds

pub returns-clause-drawn : goal.returns-clause-drawn
returns-clause-drawn c =
    let e = equations_from c.system-system.result.now in
    let p = c.args.places.now in
    let is = c.system-system.ensures.system in
    let ordered = subst IsOrdered (sym is) c.system-system.ensures.ordered in
    let bits = c.in_ok-bits.field-0.bits.items in
    let words = map (λ w. w.items) c.in_ok-bits.field-0.words.items in
    let count = ap registers (sym is) in
    let first : c.len-2.result ≡ registers e = omega (arith, c.len-2.ensures, c.system-system.result.now.init.ok.0) in
    let denote = subst (λ (cyclic : List ℕ). DenoteCompletions c.diagrams_of.new.arena e cyclic p bits words) c.in_ok-plan.ensures.cyclic c.in_ok-bits.ensures.denote in
    let picked : ProgramDiagrams = record { registers = c.truncate.new.self; next = c.in_ok-next.next; outputs = c.in_ok-outputs.outputs; structural = c.in_ok-structural.structural } in
    subst (λ (g : Equations). AreDrawn c.structural.new.arena g (shapes_of c.args.layout.now) p picked) is
    (drawn e (shapes_of c.args.layout.now) p c.diagrams_of.new.arena c.structural.new.arena c.in_ok-structural.ensures.adds.keeps ordered
    (c.requires.places.registers_sized ∙ count) (c.requires.places.inputs_sized ∙ ap (λ (g : Equations). g.inputs) (sym is)) c.requires.places.cyclic_sized
    bits words denote picked
    (record {
      registers_are = ap (map (λ w. w.items)) (c.truncate.ensures.items ∙ ap (λ n. take n c.in_ok-bits.field-0.words.items) first)
          ∙ sym (take-map (λ w. w.items) (registers e) c.in_ok-bits.field-0.words.items);
      next_are = c.in_ok-next.ensures ∙ ap (λ ws. map (λ k. slice_index_or (map (λ w. w.items) ws) k []) c.deref-2.result.now) c.deref.ensures.value
          ∙ ap (map (λ k. slice_index_or words k [])) c.deref-2.ensures.value;
      outputs_are = c.in_ok-outputs.ensures ∙ ap (λ bs. map (λ k. slice_index_or bs k (record { 0 = 0 })) c.deref-4.result.now) c.deref-3.ensures.value
          ∙ ap (map (λ k. slice_index_or bits k (record { 0 = 0 }))) c.deref-4.ensures.value;
      outputs_exist = exist-below (bit_count e) (length bits) e.outputs (sym c.in_ok-bits.ensures.bits) ordered.outputs_exist;
      next_exist = exist-between (registers e) (word_count e) (length words) e.next
          (sym (length-map c.in_ok-bits.field-0.words.items (λ w. w.items) ∙ c.in_ok-bits.ensures.words)) ordered.next_exist;
    }) c.in_ok-structural.ensures.denotes)
