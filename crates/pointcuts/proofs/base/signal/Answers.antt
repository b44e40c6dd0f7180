use Rattle.std.proofs.Common.{◌≡◌, Some, None, sym, ap, ◌∙◌}
use Rattle.argos_base.specs.Names.{place_of}
use Rattle.line_format.specs.FileNames.{names_of}
use Rattle.pointcuts.proofs.BaseScope.{sort_input, sort_output, sort_none}
use Rattle.pointcuts.proofs.Places.{stands, placed, unplaced}
use Rattle.pointcuts.proofs.base.signal.Goals as goal

pub returns-in-Some-clause-sort : goal.returns-in-Some-clause-sort
returns-in-Some-clause-sort c =
    let n = names_of c.args.base.now in
    let name = c.args.name.now in
    let place : place_of n.inputs name ≡ Some c.in-Some.k.0 = ap (place_of n.inputs) (sym c.bytes.ensures.bytes) ∙ sym c.in-Some.ensures in
    sym (sort_input n name (placed n.inputs name c.in-Some.k.0 place))

pub returns-in-Some-clause-seen : goal.returns-in-Some-clause-seen
returns-in-Some-clause-seen c =
    let n = names_of c.args.base.now in
    let name = c.args.name.now in
    let place : place_of n.inputs name ≡ Some c.in-Some.k.0 = ap (place_of n.inputs) (sym c.bytes.ensures.bytes) ∙ sym c.in-Some.ensures in
    stands n.inputs name c.in-Some.k.0 place

pub returns-in-Some-find-clause-sort : goal.returns-in-Some-find-clause-sort
returns-in-Some-find-clause-sort c =
    let n = names_of c.args.base.now in
    let name = c.args.name.now in
    let none : place_of n.inputs name ≡ None = ap (place_of n.inputs) (sym c.bytes.ensures.bytes) ∙ sym c.in-None.ensures in
    let place : place_of n.outputs name ≡ Some c.in-Some-find.k.0 = ap (place_of n.outputs) (sym c.bytes-in-None.ensures.bytes) ∙ sym c.in-Some-find.ensures in
    sym (sort_output n name (unplaced n.inputs name none) (placed n.outputs name c.in-Some-find.k.0 place))

pub returns-in-Some-find-clause-seen : goal.returns-in-Some-find-clause-seen
returns-in-Some-find-clause-seen c =
    let n = names_of c.args.base.now in
    let name = c.args.name.now in
    let place : place_of n.outputs name ≡ Some c.in-Some-find.k.0 = ap (place_of n.outputs) (sym c.bytes-in-None.ensures.bytes) ∙ sym c.in-Some-find.ensures in
    stands n.outputs name c.in-Some-find.k.0 place

pub returns-in-None-find-clause-sort : goal.returns-in-None-find-clause-sort
returns-in-None-find-clause-sort c =
    let n = names_of c.args.base.now in
    let name = c.args.name.now in
    let none : place_of n.inputs name ≡ None = ap (place_of n.inputs) (sym c.bytes.ensures.bytes) ∙ sym c.in-None.ensures in
    let neither : place_of n.outputs name ≡ None = ap (place_of n.outputs) (sym c.bytes-in-None.ensures.bytes) ∙ sym c.in-None-find.ensures in
    sym (sort_none n name (unplaced n.inputs name none) (unplaced n.outputs name neither))
