use Rattle.std.proofs.Common.{◌≡◌, ◌+◌, ◌-◌, ◌<◌, ℕ, [], false, length, get_or, replicate, rules, sym, subst, ◌∙◌, arith}
use Rattle.std.proofs.lemmas.List.{length-map}
use Rattle.eqn_order.specs.inner.Graphs.{rows_of}
use Rattle.eqn_order.specs.inner.Searches.{Gathers}
use Rattle.eqn_order.proofs.Gathered.{stands_at}
use Rattle.eqn_order.proofs.Crossing.{goes_down, goes_on, gathers_with}
use Rattle.eqn_order.proofs.components.roots.Goals as goal
use Rattle.eqn_order.proofs.Places.{get_at, read_bool}

pub loop-place-init : goal.loop-place-init
loop-place-init c =
    let seen : c.in_ok-vec.field-0.items ≡ replicate (length c.args.readers.now) false = search rules in
    let roots : c.in_ok-vec-2.field-0.items ≡ replicate (length c.args.readers.now) 0 = search rules in
    (gathers_with (rows_of c.args.readers.now) c.args.finished.now (length c.args.readers.now) _ _ _ c.requires.sized (sym (length-map c.args.readers.now (λ r. r.items))) c.requires.sized seen roots, c.new.ensures.items, omega arith)

pub index-requires : goal.index-requires
index-requires c =
    let low : c.loop-place.place - 1 < length c.args.finished.now = omega (arith, c.loop-place.invariant.2, c.loop-place-test.true) in
    omega (arith, c.requires.lines (get_or c.args.finished.now (c.loop-place.place - 1) 0) (stands_at c.args.finished.now (c.loop-place.place - 1) low), c.loop-place.invariant.0.seen_sized, length-map c.args.readers.now (λ r. r.items))

pub loop-place-preserved-then-index : goal.loop-place-preserved-then-index
loop-place-preserved-then-index c =
    let i = c.loop-place.invariant in
    let s = c.loop-place.search in
    let Q = rows_of c.args.readers.now in
    let F = c.args.finished.now in
    let k = c.loop-place.place - 1 in
    let low : k < length F = omega (arith, i.2, c.loop-place-test.true) in
    let inside : get_or F k 0 < length s.seen.items = omega (arith, c.requires.lines (get_or F k 0) (stands_at F k low), i.0.seen_sized, length-map c.args.readers.now (λ r. r.items)) in (
      goes_on Q F c.loop-place.place k (get_or F k 0) s.seen.items s.roots.items (omega (arith, c.loop-place-test.true)) (get_at F k low) (read_bool s.seen.items (get_or F k 0) c.index.result.now inside c.index.ensures ∙ c.if-index.true)
          (goes_down Q F c.loop-place.place k s.seen.items s.roots.items (omega arith) i.0),
      i.1,
      omega (arith, low),
    )

pub gather-requires : goal.gather-requires
gather-requires c =
    let i = c.loop-place.invariant in
    let s = c.loop-place.search in
    let Q = rows_of c.args.readers.now in
    let F = c.args.finished.now in
    let k = c.loop-place.place - 1 in
    let low : k < length F = omega (arith, i.2, c.loop-place-test.true) in
    let inside : get_or F k 0 < length s.seen.items = omega (arith, c.requires.lines (get_or F k 0) (stands_at F k low), i.0.seen_sized, length-map c.args.readers.now (λ r. r.items)) in
    let same : c.loop-place.place ≡ k + 1 = omega (arith, c.loop-place-test.true) in
    let begins : Gathers Q F (k + 1) (k + 1) s.seen.items s.roots.items [] = subst (λ (j : ℕ). Gathers Q F j j s.seen.items s.roots.items []) same i.0 in
    record {
      inside = c.requires.inside;
      place = low;
      listed = c.requires.listed;
      lines = c.requires.lines;
      unseen = read_bool s.seen.items (get_or F k 0) c.index.result.now inside c.index.ensures ∙ c.if-index.false;
      search = goes_down Q F (k + 1) k s.seen.items s.roots.items (omega arith) begins;
      ended = i.1;
    }

pub loop-place-preserved : goal.loop-place-preserved
loop-place-preserved c =
    let e = c.in_ok-gather.ensures in
    let k = c.loop-place.place - 1 in
    let low : k < length c.args.finished.now = omega (arith, c.loop-place.invariant.2, c.loop-place-test.true) in (
      goes_on (rows_of c.args.readers.now) c.args.finished.now (k + 1) k (get_or c.args.finished.now k 0) c.gather.new.self.seen.items c.gather.new.self.roots.items (omega arith) (get_at c.args.finished.now k low) e.seen e.search,
      e.ended,
      omega arith,
    )

pub returns : goal.returns
returns c =
    let i = c.loop-place.invariant in
    let zero : c.loop-place.place ≡ 0 = omega (arith, c.loop-place-test.false) in
    (c.loop-place.search.seen.items, subst (λ (j : ℕ). Gathers (rows_of c.args.readers.now) c.args.finished.now j j c.loop-place.search.seen.items c.loop-place.search.roots.items []) zero i.0)
