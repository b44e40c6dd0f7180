use Rattle.std.proofs.Common.{sym}
use Rattle.argos_names.proofs.Components.{lent, named_found}
use Rattle.argos_names.proofs.rules.around.Around.named.Goals as goal

pub returns-then-first-self : goal.returns-then-first-self
returns-then-first-self c =
    let all = c.args.self.now.components.now.all.now in
    let got = lent all c.in_ok-first.first c.get.result c.get.ensures.lookup.0 c.get.ensures.lookup.1 in
    named_found c.args.name.now all c.args.self.now.place c.in_ok-first.first c.get.result (sym c.in_ok-first.ensures) c.if-first-self.true got
