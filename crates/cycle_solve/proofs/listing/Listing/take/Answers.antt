use Rattle.std.proofs.Common.{sym, ◌∙◌}
use Rattle.std.proofs.lemmas.Bool.{false≢true}
use Rattle.cycle_solve.specs.inner.Listing.{known}
use Rattle.cycle_solve.proofs.Gathered.{unknown_more}
use Rattle.cycle_solve.proofs.listing.Listing.take.Goals as goal

pub returns-then-has-clause-taken : goal.returns-then-has-clause-taken
returns-then-has-clause-taken c = λ rest ids later. known (c.has.ensures.0 c.if-has.true) later

pub returns-clause-taken : goal.returns-clause-taken
returns-clause-taken c = unknown_more c.push.result c.args.f c.args.self.now.ids.items
    c.push.new.self.ids.items (λ at. false≢true (sym c.if-has.false ∙ c.has.ensures.1 at)) c.push.ensures.pushed
