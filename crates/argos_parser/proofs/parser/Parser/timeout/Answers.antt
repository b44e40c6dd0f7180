use Rattle.std.proofs.Common.{arith}
use Rattle.argos_tokens.specs.TokenViews.{tokens_of}
use Rattle.argos_grammar.proofs.Steps.{timeout_in}
use Rattle.argos_parser.proofs.parser.Parser.timeout.Goals as goal

pub returns-clause-run : goal.returns-clause-run
returns-clause-run c = λ due os s.
    let a = timeout_in due os (tokens_of c.args.self.now.rest.now) in
    let b = c.in_ok-timed.ensures.run due os s in
    grind (arith, a)
