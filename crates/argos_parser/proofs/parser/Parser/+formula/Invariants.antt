use Rattle.std.proofs.Common.{◌≡◌, ◌<◌, ◌≤◌, ◌+◌, ◌-◌, ◌*◌, List, ◌∷◌, length, map}
use Rattle.argos_base.specs.Limits.{level_limit}
use Rattle.argos_tokens.specs.TokenViews.{tokens_of}
use Rattle.argos_grammar.specs.Views.{formula_of}
use Rattle.argos_grammar.specs.Faults.{Open}
use Rattle.argos_grammar.specs.Runs.{outcome}
use Rattle.argos_grammar.specs.Runs.{IsSettled}
use Rattle.argos_grammar.specs.DueSymbols as due
use Rattle.argos_grammar.specs.Grammar as grammar
use Rattle.argos_parser.proofs.Conditions.{UnitsSoFar, PartsSoFar}
use Rattle.argos_parser.proofs.parser.Parser.+formula.Given as goal

-- levels that are left, and the rules that begin with one another at one level
abbrev pub decreases-formula : goal.decreases-formula
decreases-formula l = 4 * (level_limit - l.depth) + 3

abbrev pub decreases-conjunct : goal.decreases-conjunct
decreases-conjunct l = 4 * (level_limit - l.depth) + 2

abbrev pub decreases-factor : goal.decreases-factor
decreases-factor l = 4 * (level_limit - l.depth) + 1

abbrev pub decreases-denied : goal.decreases-denied
decreases-denied l = 4 * (level_limit - l.depth)

abbrev pub decreases-grouped : goal.decreases-grouped
decreases-grouped l = 4 * (level_limit - l.depth)

abbrev pub invariant-formula-loop-conjuncts : goal.invariant-formula-loop-conjuncts
invariant-formula-loop-conjuncts l = record {
  tree : PartsSoFar grammar.one_atom (map formula_of l.conjuncts.items) (tokens_of l.fn.self.rest.now) (tokens_of l.self.rest.now);
  some : 2 ≤ length l.conjuncts.items;
  run : (more : List due.Symbol) (os : List Open) → length os ≡ l.depth → IsSettled os → outcome (due.rule due.formula ∷ more) os (tokens_of l.fn.self.rest.now) ≡ outcome (due.repeat due.another_conjunct ∷ more) os (tokens_of l.self.rest.now);
  shorter : length l.self.rest.now < length l.fn.self.rest.now;
}

abbrev pub decreases-formula-loop-conjuncts : goal.decreases-formula-loop-conjuncts
decreases-formula-loop-conjuncts l = length l.self.rest.now

abbrev pub invariant-conjunct-loop-factors : goal.invariant-conjunct-loop-factors
invariant-conjunct-loop-factors l = record {
  tree : UnitsSoFar grammar.one_atom (map formula_of l.factors.items) (tokens_of l.fn.self.rest.now) (tokens_of l.self.rest.now);
  some : 2 ≤ length l.factors.items;
  run : (more : List due.Symbol) (os : List Open) → length os ≡ l.depth → IsSettled os → outcome (due.rule due.conjunct ∷ more) os (tokens_of l.fn.self.rest.now) ≡ outcome (due.repeat due.another_factor ∷ more) os (tokens_of l.self.rest.now);
  shorter : length l.self.rest.now < length l.fn.self.rest.now;
}

abbrev pub decreases-conjunct-loop-factors : goal.decreases-conjunct-loop-factors
decreases-conjunct-loop-factors l = length l.self.rest.now
