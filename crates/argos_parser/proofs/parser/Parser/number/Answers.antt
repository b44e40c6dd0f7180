use Rattle.std.proofs.Common.{◌∷◌}
use Rattle.argos_parser.proofs.Ahead.{first_no_number}
use Rattle.argos_parser.proofs.parser.Parser.number.Goals as goal

pub returns-in-None-clause-refused : goal.returns-in-None-clause-refused
returns-in-None-clause-refused c = λ s symbols os n.
    c.refusal.ensures (s ∷ symbols) os (first_no_number c.args.self.now.rest.now c.in-Some.token.now c.in-Some.ensures.value c.in-None.ensures s symbols n)
