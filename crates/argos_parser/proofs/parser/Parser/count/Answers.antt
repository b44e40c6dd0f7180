use Rattle.std.proofs.Common.{arith}
use Rattle.argos_tokens.specs.TokenViews.{tokens_of}
use Rattle.argos_grammar.specs.Views.{numeral}
use Rattle.argos_grammar.proofs.Leaves.{zero_count, count_taken}
use Rattle.argos_parser.proofs.parser.Parser.count.Goals as goal

pub returns-then-count-eq0-clause-run : goal.returns-then-count-eq0-clause-run
returns-then-count-eq0-clause-run c = λ due os.
    zero_count (numeral c.in_ok-count.count c.in_ok-count.at) due os (tokens_of c.args.self.now.rest.now) (tokens_of c.number.new.self.rest.now) (omega arith) c.in_ok-count.ensures.token

pub returns-clause-run : goal.returns-clause-run
returns-clause-run c = λ due os.
    count_taken (numeral c.in_ok-count.count c.in_ok-count.at) due os (tokens_of c.args.self.now.rest.now) (tokens_of c.number.new.self.rest.now) (omega arith) c.in_ok-count.ensures.token
