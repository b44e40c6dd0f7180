use Rattle.std.proofs.Common.{◌≡◌, ◌<◌, ◌+◌, ℕ, List, [], ◌∷◌, Bool, length, get_or, slice_get, refl, ap, subst, arith, ◌∙◌, false, length-append}
use Rattle.std.proofs.lemmas.List.{length-map}
use Rattle.argos_base.specs.SignalSets.{has}
use Rattle.eqn_order.specs.inner.Graphs.{rows_of, row, IsEdge}
use Rattle.eqn_order.specs.inner.Searches.{unseen, Gathers}
use Rattle.eqn_order.proofs.Places.{Stands-first, unseen-set, has-set_keep, has-set_same, within, read_bool}
use Rattle.eqn_order.proofs.Crossing.{turns, settles}
use Rattle.eqn_order.proofs.Gathered.{stands_at, starts, waits_inside, adds_reader, seen_more, seen_keep, edge_at}
use Rattle.eqn_order.proofs.components.Gathering.gather.Goals as goal

pub add-requires-clause-seen : goal.add-requires-clause-seen
add-requires-clause-seen c = omega (arith, c.requires.lines (get_or c.args.finished.now c.args.place 0) (stands_at c.args.finished.now c.args.place c.requires.place), c.requires.search.seen_sized, length-map c.args.readers.now (λ r. r.items))

pub add-requires-clause-roots : goal.add-requires-clause-roots
add-requires-clause-roots c = omega (arith, c.requires.lines (get_or c.args.finished.now c.args.place 0) (stands_at c.args.finished.now c.args.place c.requires.place), c.requires.search.roots_sized, length-map c.args.readers.now (λ r. r.items))

pub loop-line-init : goal.loop-line-init
loop-line-init c =
    let s = c.args.self.now in
    let low : get_or c.args.finished.now c.args.place 0 < length (rows_of c.args.readers.now) = omega (arith, c.requires.lines (get_or c.args.finished.now c.args.place 0) (stands_at c.args.finished.now c.args.place c.requires.place), length-map c.args.readers.now (λ r. r.items)) in
    starts (rows_of c.args.readers.now) c.args.finished.now (c.args.place + 1) c.args.place s.seen.items c.add.new.self.seen.items s.roots.items c.add.new.self.roots.items s.waiting.items c.add.new.self.waiting.items
    c.requires.search c.requires.ended c.requires.place low c.requires.unseen c.in_ok-add.ensures.seen c.in_ok-add.ensures.roots c.in_ok-add.ensures.waiting

turned : (c : goal.In-Some) → Gathers (rows_of c.args.readers.now) c.args.finished.now (c.args.place + 1) c.args.place c.loop-line.self.seen.items c.loop-line.self.roots.items (c.in-Some.line ∷ c.pop.new.self.items)
turned c =
    turns (rows_of c.args.readers.now) c.args.finished.now (c.args.place + 1) c.args.place c.in-Some.line c.loop-line.self.seen.items c.loop-line.self.roots.items c.pop.new.self.items
    (subst (λ (xs : List ℕ). Gathers (rows_of c.args.readers.now) c.args.finished.now (c.args.place + 1) c.args.place c.loop-line.self.seen.items c.loop-line.self.roots.items xs) c.in-Some.ensures.items c.loop-line.invariant.0)

pub row_of-row-requires : goal.row_of-row-requires
row_of-row-requires c = omega (arith, waits_inside (rows_of c.args.readers.now) c.args.finished.now (c.args.place + 1) c.args.place c.loop-line.self.seen.items c.loop-line.self.roots.items (c.in-Some.line ∷ c.pop.new.self.items) c.in-Some.line (turned c) (Stands-first c.pop.new.self.items c.in-Some.line), length-map c.args.readers.now (λ r. r.items))

pub loop-reader-init : goal.loop-reader-init
loop-reader-init c = (
  turns (rows_of c.args.readers.now) c.args.finished.now (c.args.place + 1) c.args.place c.in-Some.line c.loop-line.self.seen.items c.loop-line.self.roots.items c.pop.new.self.items
      (subst (λ (xs : List ℕ). Gathers (rows_of c.args.readers.now) c.args.finished.now (c.args.place + 1) c.args.place c.loop-line.self.seen.items c.loop-line.self.roots.items xs) c.in-Some.ensures.items c.loop-line.invariant.0),
  c.loop-line.invariant.1,
  refl,
  c.row_of-row.ensures,
  λ k x l e. absurd (omega arith),
)

pub loop-line-preserved : goal.loop-line-preserved
loop-line-preserved c =
    let i = c.loop-reader.invariant in (
      settles (rows_of c.args.readers.now) c.args.finished.now (c.args.place + 1) c.args.place c.in-Some.line c.loop-reader.self.seen.items c.loop-reader.self.roots.items c.loop-reader.self.waiting.items i.0
          (λ x e. i.4 e.place x (omega (arith, c.loop-reader-test.false, within (row (rows_of c.args.readers.now) c.in-Some.line) e.place x e.is, ap length i.3)) (ap (λ (xs : List ℕ). slice_get xs e.place) i.3 ∙ e.is)),
      i.1,
    )

pub index-requires : goal.index-requires
index-requires c =
    let i = c.loop-reader.invariant in
    omega (arith, c.requires.inside c.in-Some.line (get_or c.row_of-row.result.now c.loop-reader.reader-index 0) (edge_at (rows_of c.args.readers.now) c.in-Some.line c.row_of-row.result.now c.loop-reader.reader-index i.3 c.loop-reader-test.true), i.0.seen_sized)

pub add-requires-in-loop-reader-clause-seen : goal.add-requires-in-loop-reader-clause-seen
add-requires-in-loop-reader-clause-seen c =
    let i = c.loop-reader.invariant in
    omega (arith, c.requires.inside c.in-Some.line (get_or c.row_of-row.result.now c.loop-reader.reader-index 0) (edge_at (rows_of c.args.readers.now) c.in-Some.line c.row_of-row.result.now c.loop-reader.reader-index i.3 c.loop-reader-test.true), i.0.seen_sized)

pub add-requires-in-loop-reader-clause-roots : goal.add-requires-in-loop-reader-clause-roots
add-requires-in-loop-reader-clause-roots c =
    let i = c.loop-reader.invariant in
    omega (arith, c.requires.inside c.in-Some.line (get_or c.row_of-row.result.now c.loop-reader.reader-index 0) (edge_at (rows_of c.args.readers.now) c.in-Some.line c.row_of-row.result.now c.loop-reader.reader-index i.3 c.loop-reader-test.true), i.0.roots_sized)

pub loop-reader-preserved-then-index : goal.loop-reader-preserved-then-index
loop-reader-preserved-then-index c =
    let i = c.loop-reader.invariant in
    let row = c.row_of-row.result.now in
    let k = c.loop-reader.reader-index in
    let t = get_or row k 0 in
    let low : t < length c.loop-reader.self.seen.items = omega (arith, c.requires.inside c.in-Some.line t (edge_at (rows_of c.args.readers.now) c.in-Some.line row k i.3 c.loop-reader-test.true), i.0.seen_sized) in
    (i.0, i.1, i.2, i.3, seen_more c.loop-reader.self.seen.items row k c.loop-reader-test.true i.4 (read_bool c.loop-reader.self.seen.items t c.index.result.now low c.index.ensures ∙ c.if-index.true))

pub loop-reader-preserved : goal.loop-reader-preserved
loop-reader-preserved c =
    let i = c.loop-reader.invariant in
    let s = c.loop-reader.self in
    let n = c.add-in-loop-reader.new.self in
    let Q = rows_of c.args.readers.now in
    let row = c.row_of-row.result.now in
    let k = c.loop-reader.reader-index in
    let t = get_or row k 0 in
    let edge : IsEdge Q c.in-Some.line t = edge_at Q c.in-Some.line row k i.3 c.loop-reader-test.true in
    let low : t < length s.seen.items = omega (arith, c.requires.inside c.in-Some.line t edge, i.0.seen_sized) in
    let new : has s.seen.items t ≡ false = read_bool s.seen.items t c.index.result.now low c.index.ensures ∙ c.if-index.false in
    let e = c.in_ok-add-2.ensures in (
      adds_reader Q c.args.finished.now (c.args.place + 1) c.args.place s.seen.items n.seen.items s.roots.items n.roots.items s.waiting.items n.waiting.items c.in-Some.line t (omega arith)
          (λ u m. c.requires.listed u (omega (arith, m, length-map c.args.readers.now (λ r. r.items)))) c.requires.inside i.0 edge new e.seen e.roots e.waiting,
      ap (λ (xs : List Bool). has xs (get_or c.args.finished.now c.args.place 0)) e.seen ∙ has-set_keep s.seen.items t (get_or c.args.finished.now c.args.place 0) i.1,
      omega (arith, unseen-set s.seen.items t low new, ap unseen e.seen, ap length e.waiting, length-append s.waiting.items (t ∷ []), i.2),
      i.3,
      seen_more n.seen.items row k c.loop-reader-test.true (seen_keep s.seen.items n.seen.items row k t e.seen i.4) (ap (λ (xs : List Bool). has xs t) e.seen ∙ has-set_same s.seen.items t low),
    )
