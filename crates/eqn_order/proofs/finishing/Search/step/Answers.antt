use Rattle.std.proofs.Common.{◌+◌, set, arith}
use Rattle.std.proofs.lemmas.List.{length-map}
use Rattle.eqn_order.specs.inner.Graphs.{rows_of}
use Rattle.eqn_order.proofs.Searching.{last_inside, target_inside, Next, step_enters, step_skips, step_leaves}
use Rattle.eqn_order.proofs.finishing.Search.step.Goals as goal

pub index-requires : goal.index-requires
index-requires c =
    let s = c.args.self.now in
    omega (arith, last_inside (rows_of c.args.rows.now) s.seen.items s.followed.items s.path.items s.done.items c.args.line c.requires.search, c.requires.search.followed_sized)

pub edge-requires : goal.edge-requires
edge-requires c =
    let s = c.args.self.now in
    omega (arith, last_inside (rows_of c.args.rows.now) s.seen.items s.followed.items s.path.items s.done.items c.args.line c.requires.search, length-map c.args.rows.now (λ r. r.items))

pub index-requires-in-Some : goal.index-requires-in-Some
index-requires-in-Some c =
    let s = c.args.self.now in
    omega (arith, target_inside (rows_of c.args.rows.now) c.requires.inside s.seen.items s.followed.items s.path.items s.done.items c.args.line c.requires.search c.in-Some.target c.index.result.now c.in-Some.ensures.edge, c.requires.search.seen_sized)

pub enter-requires : goal.enter-requires
enter-requires c =
    let s = c.args.self.now in
    omega (arith, target_inside (rows_of c.args.rows.now) c.requires.inside s.seen.items s.followed.items s.path.items s.done.items c.args.line c.requires.search c.in-Some.target c.index.result.now c.in-Some.ensures.edge, c.requires.search.seen_sized)

entered : (c : goal.In_ok-enter-in-Some) → Next (rows_of c.args.rows.now) c.requires.inside c.args.self.now.seen.items c.args.self.now.followed.items c.args.self.now.path.items c.args.self.now.done.items c.args.line c.requires.search c.enter.new.self.seen.items c.enter.new.self.followed.items c.enter.new.self.path.items c.enter.new.self.done.items
entered c =
    let s = c.args.self.now in
    step_enters (rows_of c.args.rows.now) c.requires.inside s.seen.items s.followed.items s.path.items s.done.items c.args.line c.requires.search c.in-Some.target c.index.result.now c.index_mut.result.now c.index-in-Some.result.now
    c.enter.new.self.seen.items c.enter.new.self.followed.items c.push.new.self.items c.enter.new.self.path.items c.enter.new.self.done.items
    c.index.ensures c.index_mut.ensures.value c.in-Some.ensures.edge c.index-in-Some.ensures c.if-not-index.true c.in_ok-push-in-Some.ensures.items
    c.in_ok-enter-in-Some.ensures.seen c.in_ok-enter-in-Some.ensures.followed c.in_ok-enter-in-Some.ensures.path c.in_ok-enter-in-Some.ensures.done

skipped : (c : goal.Else-not-index) → Next (rows_of c.args.rows.now) c.requires.inside c.args.self.now.seen.items c.args.self.now.followed.items c.args.self.now.path.items c.args.self.now.done.items c.args.line c.requires.search c.args.self.now.seen.items (set c.args.self.now.followed.items c.args.line (c.index_mut.result.now + 1)) c.push.new.self.items c.args.self.now.done.items
skipped c =
    let s = c.args.self.now in
    step_skips (rows_of c.args.rows.now) c.requires.inside s.seen.items s.followed.items s.path.items s.done.items c.args.line c.requires.search c.in-Some.target c.index.result.now c.index_mut.result.now c.index-in-Some.result.now
    c.push.new.self.items c.index.ensures c.index_mut.ensures.value c.in-Some.ensures.edge c.index-in-Some.ensures c.if-not-index.false c.in_ok-push-in-Some.ensures.items

pub returns-in_ok-enter-in-Some-clause-search : goal.returns-in_ok-enter-in-Some-clause-search
returns-in_ok-enter-in-Some-clause-search c = (entered c).search

pub returns-in_ok-enter-in-Some-clause-less : goal.returns-in_ok-enter-in-Some-clause-less
returns-in_ok-enter-in-Some-clause-less c = (entered c).shorter

pub returns-else-not-index-clause-search : goal.returns-else-not-index-clause-search
returns-else-not-index-clause-search c = (skipped c).search

pub returns-else-not-index-clause-less : goal.returns-else-not-index-clause-less
returns-else-not-index-clause-less c = (skipped c).shorter

pub returns-in_ok-push-in-None-clause-search : goal.returns-in_ok-push-in-None-clause-search
returns-in_ok-push-in-None-clause-search c =
    let s = c.args.self.now in
    step_leaves (rows_of c.args.rows.now) c.requires.inside s.seen.items s.followed.items s.path.items s.done.items c.args.line c.requires.search c.index.result.now c.push-in-None.new.self.items c.index.ensures c.in-None.ensures.edge c.in_ok-push-in-None.ensures.items
