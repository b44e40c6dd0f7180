use Rattle.std.proofs.Common.{◌≡◌, ◌<◌, List, ◌∷◌, length}
use Rattle.argos_tokens.specs.TokenViews.{tokens_of}
use Rattle.argos_grammar.specs.Views.{marks_of}
use Rattle.argos_grammar.specs.Faults.{Open}
use Rattle.argos_grammar.specs.Runs.{outcome}
use Rattle.argos_grammar.specs.Runs.{IsSettled}
use Rattle.argos_grammar.specs.DueSymbols as due
use Rattle.argos_grammar.specs.Grammar as grammar
use Rattle.argos_parser.proofs.parser.Parser.names.Given as goal

abbrev pub invariant-loop-names : goal.invariant-loop-names
invariant-loop-names l = record {
  tree : grammar.names (marks_of l.names.items) (tokens_of l.fn.self.rest.now) (tokens_of l.self.rest.now);
  run : (more : List due.Symbol) (os : List Open) → IsSettled os → outcome (due.rule due.names ∷ more) os (tokens_of l.fn.self.rest.now) ≡ outcome (due.repeat due.another_name ∷ more) os (tokens_of l.self.rest.now);
  shorter : length l.self.rest.now < length l.fn.self.rest.now;
}

abbrev pub decreases-loop-names : goal.decreases-loop-names
decreases-loop-names l = length l.self.rest.now
