use Rattle.std.proofs.Common.{sym, ◌∙◌}
use Rattle.argos_expansion.proofs.PlacedLists.{first_beyond}
use Rattle.argos_expansion.proofs.placing.Placer.first.Goals as goal

pub returns-else-first-self : goal.returns-else-first-self
returns-else-first-self c = sym (first_beyond c.args.name.now c.args.self.now.names.now.names.items c.args.self.now.place c.in_ok-first.first (sym c.first.ensures ∙ c.in_ok-first.was {u = tt}) c.if-first-self.false)
