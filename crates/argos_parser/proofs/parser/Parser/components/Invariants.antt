use Rattle.std.proofs.Common.{◌≡◌, List, ◌∷◌, length, map}
use Rattle.argos_tokens.specs.TokenViews.{tokens_of}
use Rattle.argos_grammar.specs.Views.{component_of}
use Rattle.argos_grammar.specs.Faults.{Open}
use Rattle.argos_grammar.specs.Runs.{outcome}
use Rattle.argos_grammar.specs.Runs.{IsSettled}
use Rattle.argos_grammar.specs.DueSymbols as due
use Rattle.argos_grammar.specs.Grammar as grammar
use Rattle.argos_parser.proofs.parser.Parser.components.Given as goal

abbrev pub invariant-loop-components : goal.invariant-loop-components
invariant-loop-components l = record {
  tree : grammar.components (map component_of l.components.items) (tokens_of l.fn.self.rest.now) (tokens_of l.self.rest.now);
  run : (more : List due.Symbol) (os : List Open) → length os ≡ 0 → IsSettled os → outcome (due.rule due.component ∷ due.repeat due.component ∷ more) os (tokens_of l.fn.self.rest.now) ≡ outcome (due.repeat due.component ∷ more) os (tokens_of l.self.rest.now);
}

abbrev pub decreases-loop-components : goal.decreases-loop-components
decreases-loop-components l = length l.self.rest.now
