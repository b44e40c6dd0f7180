use Rattle.argos_tokens.specs.TokenViews.{tokens_of}
use Rattle.argos_grammar.specs.Views.{numeral}
use Rattle.argos_grammar.proofs.Leaves.{number_taken}
use Rattle.argos_parser.proofs.parser.Parser.plain_number.Goals as goal

pub returns-clause-run : goal.returns-clause-run
returns-clause-run c = λ due os.
    number_taken (numeral c.in_ok-number.number c.in_ok-number.at) due os (tokens_of c.args.self.now.rest.now) (tokens_of c.number.new.self.rest.now) c.in_ok-number.ensures.token
