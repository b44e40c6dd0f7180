use Rattle.std.proofs.Common.{arith}
use Rattle.argos_tokens.specs.TokenViews.{tokens_of}
use Rattle.argos_grammar.specs.Views.{numeral}
use Rattle.argos_grammar.proofs.Leaves.{wrong_version, version_taken}
use Rattle.argos_parser.proofs.parser.Parser.version.Goals as goal

pub returns-then-version-ne1-clause-run : goal.returns-then-version-ne1-clause-run
returns-then-version-ne1-clause-run c = λ due os.
    wrong_version (numeral c.in_ok-version.version c.in_ok-version.at) due os (tokens_of c.args.self.now.rest.now) (tokens_of c.number.new.self.rest.now) (omega arith) c.in_ok-version.ensures.token

pub returns-clause-run : goal.returns-clause-run
returns-clause-run c = λ due os.
    version_taken (numeral c.in_ok-version.version c.in_ok-version.at) due os (tokens_of c.args.self.now.rest.now) (tokens_of c.number.new.self.rest.now) (omega arith) c.in_ok-version.ensures.token
