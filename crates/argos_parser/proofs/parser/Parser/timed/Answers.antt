use Rattle.std.proofs.Common.{◌∷◌, List, ◌∙◌}
use Rattle.argos_tokens.specs.TokenViews.{tokens_of}
use Rattle.argos_grammar.specs.DueSymbols.{Symbol, w, name, option, emission}
use Rattle.argos_parser.proofs.Chains.{settle}
use Rattle.argos_grammar.proofs.Steps.{timeout_rule}
use Rattle.argos_parser.proofs.parser.Parser.timed.Goals as goal

pub returns-clause-run : goal.returns-clause-run
returns-clause-run c = λ due os s.
    let rest : List Symbol = option emission ∷ w "goto" ∷ name ∷ w ";" ∷ due in
    timeout_rule due os (tokens_of c.args.self.now.rest.now) ∙ c.in_ok-count.ensures.run (name ∷ rest) os s
    ∙ settle (name ∷ rest) rest os (tokens_of c.delay.new.self.rest.now) (tokens_of c.name.new.self.rest.now) (c.in_ok-signal.ensures.run rest os) s
    ∙ c.in_ok-outs.ensures.run due os s
