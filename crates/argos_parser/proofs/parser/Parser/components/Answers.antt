use Rattle.std.proofs.Common.{arith}
use Rattle.argos_tokens.specs.TokenViews.{tokens_of}
use Rattle.argos_grammar.proofs.Steps.{component_out}
use Rattle.argos_parser.proofs.parser.Parser.components.Goals as goal

pub returns-clause-run : goal.returns-clause-run
returns-clause-run c = λ due os l s.
    let a = c.loop-components.invariant.run due os l s in
    let b = component_out due os (tokens_of c.loop-components.self.rest.now) in
    grind (arith, b)
