use Rattle.std.proofs.Common.{true, false, sym, ◌∙◌, arith}
use Rattle.std.proofs.lemmas.Bool.{false≢true}
use Rattle.dd_ops.proofs.Listings.{VisitsLast, visit_more, low_is_held, high_is_held, child_smaller}
use Rattle.dd_ops.proofs.listing.+visit.Goals as goal

pub visit-requires : goal.visit-requires
visit-requires t c =
    let is = sym c.node.ensures.node ∙ c.in-Some.is in let valid = c.node.ensures.arena in
    (omega (arith, child_smaller c.args.arena.now c.args.f c.in-Some.node false valid is), (low_is_held c.args.arena.now c.args.f c.in-Some.node valid is, (c.requires.agrees, c.requires.listing)))

pub visit-requires-2 : goal.visit-requires-2
visit-requires-2 t c =
    let is = sym c.node.ensures.node ∙ c.in-Some.is in let valid = c.node.ensures.arena in
    let first = c.in_ok-visit.ensures.visits in
    (omega (arith, child_smaller c.args.arena.now c.args.f c.in-Some.node true valid is), (high_is_held c.args.arena.now c.args.f c.in-Some.node valid is, (first.agrees, first.listing)))

pub returns-clause-visits : goal.returns-clause-visits
returns-clause-visits t c =
    let here : VisitsLast c.args.arena.now.variables c.args.arena.now.nodes c.args.f c.in-Some.node c.args.listing.now c.visit.new.listing c.visit-2.new.listing c.push.new.self = record {
      reduced = c.node.ensures.arena.reduced;
      is = sym c.node.ensures.node ∙ c.in-Some.is;
      absent = λ at. false≢true (sym c.if-has.false ∙ c.has.ensures.1 at);
      low = c.in_ok-visit.ensures.visits;
      high = c.in_ok-visit-2.ensures.visits;
      pushed = c.in_ok-push.ensures.pushed;
    } in
    visit_more here c.in_ok-push.ensures.agrees
