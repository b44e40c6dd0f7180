use Rattle.std.proofs.Common.{◌+◌, ◌<◌, ℕ, List, length, get_or, slice_get, ap, sym, subst, ◌∙◌, arith}
use Rattle.std.proofs.lemmas.List.{length-map}
use Rattle.eqn_order.specs.inner.Graphs.{rows_of}
use Rattle.eqn_order.specs.inner.Searches.{IsReversedTo}
use Rattle.eqn_order.proofs.Gathered.{edge_at}
use Rattle.eqn_order.proofs.Reversing.{reverses_none, reverses_one, reverses_row, reverses_all}
use Rattle.eqn_order.proofs.graph.reversed.Goals as goal
use Rattle.eqn_order.proofs.Places.{get_at}

pub loop-line-init : goal.loop-line-init
loop-line-init c = subst (λ (Q : List (List ℕ)). IsReversedTo (rows_of c.args.rows.now) 0 0 Q) (sym c.in_ok-readers.ensures) (reverses_none (rows_of c.args.rows.now) (length c.args.rows.now) (sym (length-map c.args.rows.now (λ r. r.items))))

pub loop-target-init : goal.loop-target-init
loop-target-init c = c.loop-line.invariant

pub add-requires : goal.add-requires
add-requires c =
    let t = get_or c.row_of-target-items.result.now c.loop-target.target-index 0 in
    omega (arith, c.requires.inside c.loop-line.line t (edge_at (rows_of c.args.rows.now) c.loop-line.line c.row_of-target-items.result.now c.loop-target.target-index c.row_of-target-items.ensures c.loop-target-test.true), c.loop-target.invariant.sized, length-map c.loop-target.readers.items (λ r. r.items))

pub loop-target-preserved : goal.loop-target-preserved
loop-target-preserved c =
    let R = rows_of c.args.rows.now in
    let xs = c.row_of-target-items.result.now in
    let k = c.loop-target.target-index in
    let t = get_or xs k 0 in
    let inside : t < length R = c.requires.inside c.loop-line.line t (edge_at R c.loop-line.line xs k c.row_of-target-items.ensures c.loop-target-test.true) in
    subst (λ (Q : List (List ℕ)). IsReversedTo R c.loop-line.line (k + 1) Q) (sym c.in_ok-add.ensures)
    (reverses_one R c.loop-line.line k t (rows_of c.loop-target.readers.items) c.loop-target.invariant (ap (λ (ys : List ℕ). slice_get ys k) (sym c.row_of-target-items.ensures) ∙ get_at xs k c.loop-target-test.true) inside)

pub loop-line-preserved : goal.loop-line-preserved
loop-line-preserved c = reverses_row (rows_of c.args.rows.now) c.loop-line.line c.loop-target.target-index (rows_of c.loop-target.readers.items) c.loop-target.invariant (omega (arith, c.loop-target-test.false, ap length c.row_of-target-items.ensures))

pub returns : goal.returns
returns c = reverses_all (rows_of c.args.rows.now) c.loop-line.line (rows_of c.loop-line.readers.items) c.loop-line.invariant (omega (arith, c.loop-line-test.false, length-map c.args.rows.now (λ r. r.items)))
