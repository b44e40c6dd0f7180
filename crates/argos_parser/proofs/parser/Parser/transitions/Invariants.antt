use Rattle.std.proofs.Common.{◌≡◌, ◌≤◌, List, ◌∷◌, length, map}
use Rattle.argos_tokens.specs.TokenViews.{tokens_of}
use Rattle.argos_grammar.specs.Views.{trans_of}
use Rattle.argos_grammar.specs.Faults.{Open}
use Rattle.argos_grammar.specs.Runs.{outcome}
use Rattle.argos_grammar.specs.Runs.{IsSettled}
use Rattle.argos_grammar.specs.DueSymbols as due
use Rattle.argos_grammar.specs.Grammar as grammar
use Rattle.argos_parser.proofs.parser.Parser.transitions.Given as goal

abbrev pub invariant-loop-transitions : goal.invariant-loop-transitions
invariant-loop-transitions l = record {
  tree : grammar.each grammar.trans (map trans_of l.transitions.items) (tokens_of l.fn.self.rest.now) (tokens_of l.self.rest.now);
  run : (more : List due.Symbol) (os : List Open) → length os ≡ l.depth → IsSettled os → outcome (due.repeat due.trans ∷ more) os (tokens_of l.fn.self.rest.now) ≡ outcome (due.repeat due.trans ∷ more) os (tokens_of l.self.rest.now);
  shorter : length l.self.rest.now ≤ length l.fn.self.rest.now;
}

abbrev pub decreases-loop-transitions : goal.decreases-loop-transitions
decreases-loop-transitions l = length l.self.rest.now
