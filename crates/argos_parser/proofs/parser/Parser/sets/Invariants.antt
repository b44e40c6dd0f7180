use Rattle.std.proofs.Common.{◌≡◌, List, ◌∷◌, length, map}
use Rattle.argos_tokens.specs.TokenViews.{tokens_of}
use Rattle.argos_grammar.specs.Views.{set_of}
use Rattle.argos_grammar.specs.Faults.{Open}
use Rattle.argos_grammar.specs.Runs.{outcome}
use Rattle.argos_grammar.specs.Runs.{IsSettled}
use Rattle.argos_grammar.specs.DueSymbols as due
use Rattle.argos_grammar.specs.Grammar as grammar
use Rattle.argos_parser.proofs.parser.Parser.sets.Given as goal

abbrev pub invariant-loop-sets : goal.invariant-loop-sets
invariant-loop-sets l = record {
  tree : grammar.sets (map set_of l.sets.items) (tokens_of l.fn.self.rest.now) (tokens_of l.self.rest.now);
  run : (more : List due.Symbol) (os : List Open) → length os ≡ l.depth → IsSettled os → outcome (due.rule due.sets ∷ more) os (tokens_of l.fn.self.rest.now) ≡ outcome (due.repeat due.another_set ∷ more) os (tokens_of l.self.rest.now);
}

abbrev pub decreases-loop-sets : goal.decreases-loop-sets
decreases-loop-sets l = length l.self.rest.now
