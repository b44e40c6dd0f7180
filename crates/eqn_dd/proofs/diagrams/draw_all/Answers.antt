use Rattle.std.proofs.Common.{◌+◌, ◌<◌, length, ap, sym, subst, ◌∙◌, arith}
use Rattle.std.specs.Prelude.{slice_index_or}
use Rattle.std.proofs.lemmas.List.{length-map}
use Rattle.eqn_core.specs.Views.{line_of, equations_from}
use Rattle.eqn_dd.proofs.Denotations.{adds_fewer}
use Rattle.eqn_dd.proofs.Drawing.{DrawnSoFar, drawn_none, drawn_all}
use Rattle.eqn_dd.proofs.LineNumbers.{numbers_sized}
use Rattle.eqn_dd.proofs.Planned.{registers_exist, inputs_exist, given_exist, begin_few, cyclic_exist, adds_front, moved, place_there, line_there, number_there, line_fits, drawn_adds, drawn_inside, drawn_more}
use Rattle.eqn_dd.proofs.diagrams.draw_all.Goals as goal

pub begin-requires-clause-registers : goal.begin-requires-clause-registers
begin-requires-clause-registers c = registers_exist c.requires.places

pub begin-requires-clause-inputs : goal.begin-requires-clause-inputs
begin-requires-clause-inputs c = inputs_exist c.requires.places

pub begin-requires-clause-given : goal.begin-requires-clause-given
begin-requires-clause-given c = given_exist c.requires.places

pub begin-requires-clause-cyclic : goal.begin-requires-clause-cyclic
begin-requires-clause-cyclic c = rw c.deref.ensures.value (rw c.requires.bits (cyclic_exist c.requires.drawable.plan))

pub returns-in_err-table-clause-adds : goal.returns-in_err-table-clause-adds
returns-in_err-table-clause-adds c =
    adds_fewer _ _ (omega (arith, begin_few c.requires.places)) (rw c.deref.ensures.value at c.begin.ensures.adds)

pub loop-place-init : goal.loop-place-init
loop-place-init c =
    drawn_none c.in_ok-table.ensures.adds.arena c.requires.places.inputs_sized c.requires.places.registers_sized
    (rw c.requires.words at (rw c.requires.bits at (rw c.deref.ensures.value at c.in_ok-table.ensures.begins)))

pub index-requires : goal.index-requires
index-requires c =
    let there = place_there c.args.system.now c.loop-place.place-index c.requires.drawable
    c.deref-place-items.ensures.value c.loop-place-test.true in
    omega (arith, there, c.args.system.now.lines.ok.0)

pub draw_line-requires-clause-line : goal.draw_line-requires-clause-line
draw_line-requires-clause-line c =
    let s = c.args.system.now in
    let i = c.loop-place.place-index in
    let same = c.deref-place-items.ensures.value in
    let there = place_there s i c.requires.drawable same c.loop-place-test.true in
    let inside : slice_index_or c.args.plan.now.order.items i 0 < length (equations_from s).lines =
    omega (arith, there, moved i same, length-map s.lines.items line_of) in
    line_fits _ _ _ _ c.requires.drawable inside
    (line_there s i c.index.result.now same there c.index.ensures) c.loop-place.invariant.bits_sized
    (sym (length-map c.loop-place.table.words.items (λ w. w.items)) ∙ c.loop-place.invariant.words_sized)

pub returns-in_err-drawn-clause-adds : goal.returns-in_err-drawn-clause-adds
returns-in_err-drawn-clause-adds c =
    let s = c.args.system.now in
    let i = c.loop-place.place-index in
    let same = c.deref-place-items.ensures.value in
    let there = place_there s i c.requires.drawable same c.loop-place-test.true in
    let at = line_there s i c.index.result.now same there c.index.ensures in
    let inside : i < length c.args.plan.now.order.items = omega (arith, c.loop-place-test.true, ap length same) in
    adds_front _ _ (i + 1) c.requires.drawable.plan (begin_few c.requires.places)
    (rw c.deref.ensures.value at c.in_ok-table.ensures.adds)
    (drawn_adds c.requires.drawable c.requires.places inside at c.loop-place.invariant c.draw_line.ensures.adds)

pub index-requires-in-loop-place : goal.index-requires-in-loop-place
index-requires-in-loop-place c =
    let s = c.args.system.now in
    let there = place_there s c.loop-place.place-index c.requires.drawable c.deref-place-items.ensures.value
    c.loop-place-test.true in
    let long = ap length c.requires.own ∙ numbers_sized s.inputs (length s.init.items) (equations_from s).lines in
    omega (arith, there, long, length-map s.lines.items line_of, c.args.numbers.now.own.ok.0)

pub put-requires : goal.put-requires
put-requires c =
    let s = c.args.system.now in
    let i = c.loop-place.place-index in
    let same = c.deref-place-items.ensures.value in
    let there = place_there s i c.requires.drawable same c.loop-place-test.true in
    let at = line_there s i c.index.result.now same there c.index.ensures in
    let number = number_there s i c.index-in-loop-place.result.now _ c.args.numbers.now.own.items same c.requires.own
    there c.index-in-loop-place.ensures in
    let inside : i < length c.args.plan.now.order.items = omega (arith, c.loop-place-test.true, ap length same) in
    drawn_inside c.requires.drawable c.requires.places inside at c.loop-place.invariant c.in_ok-drawn.ensures.adds
    number c.in_ok-drawn.drawn c.in_ok-drawn.ensures.denotes

pub loop-place-preserved : goal.loop-place-preserved
loop-place-preserved c =
    let s = c.args.system.now in
    let i = c.loop-place.place-index in
    let same = c.deref-place-items.ensures.value in
    let there = place_there s i c.requires.drawable same c.loop-place-test.true in
    let at = line_there s i c.index.result.now same there c.index.ensures in
    let number = number_there s i c.index-in-loop-place.result.now _ c.args.numbers.now.own.items same c.requires.own
    there c.index-in-loop-place.ensures in
    let inside : i < length c.args.plan.now.order.items = omega (arith, c.loop-place-test.true, ap length same) in
    let plan = c.args.plan.now in
    subst (DrawnSoFar (equations_from s) plan.cyclic.items plan.order.items c.args.places.now c.begin.new.arena (i + 1)
    c.draw_line.new.arena) (sym c.put.ensures)
    (drawn_more c.requires.drawable c.requires.places inside at c.loop-place.invariant c.in_ok-drawn.ensures.adds
    number c.in_ok-drawn.drawn c.in_ok-drawn.ensures.denotes)

pub returns-clause-adds : goal.returns-clause-adds
returns-clause-adds c =
    adds_front _ _ c.loop-place.place-index c.requires.drawable.plan (begin_few c.requires.places)
    (rw c.deref.ensures.value at c.in_ok-table.ensures.adds) c.loop-place.invariant.adds

pub returns-clause-denote : goal.returns-clause-denote
returns-clause-denote c =
    drawn_all c.requires.drawable.plan c.requires.places.inputs_sized c.requires.places.registers_sized
    (omega (arith, c.loop-place-test.false, ap length c.deref-place-items.ensures.value)) c.loop-place.invariant

pub returns-clause-bits : goal.returns-clause-bits
returns-clause-bits c = c.loop-place.invariant.bits_sized

pub returns-clause-words : goal.returns-clause-words
returns-clause-words c = c.loop-place.invariant.words_sized
