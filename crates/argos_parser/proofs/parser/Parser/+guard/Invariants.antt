use Rattle.std.proofs.Common.{◌≡◌, ◌<◌, ◌≤◌, ◌+◌, ◌-◌, ◌*◌, List, ◌∷◌, length, map}
use Rattle.argos_base.specs.Limits.{level_limit}
use Rattle.argos_tokens.specs.TokenViews.{tokens_of}
use Rattle.argos_grammar.specs.Views.{guard_of}
use Rattle.argos_grammar.specs.Faults.{Open}
use Rattle.argos_grammar.specs.Runs.{outcome}
use Rattle.argos_grammar.specs.Runs.{IsSettled}
use Rattle.argos_grammar.specs.DueSymbols as due
use Rattle.argos_grammar.specs.Grammar as grammar
use Rattle.argos_parser.proofs.Conditions.{UnitsSoFar, PartsSoFar}
use Rattle.argos_parser.proofs.parser.Parser.+guard.Given as goal

-- levels that are left, and the rules that begin with one another at one level
abbrev pub decreases-guard : goal.decreases-guard
decreases-guard l = 4 * (level_limit - l.depth) + 3

abbrev pub decreases-part : goal.decreases-part
decreases-part l = 4 * (level_limit - l.depth) + 2

abbrev pub decreases-unit : goal.decreases-unit
decreases-unit l = 4 * (level_limit - l.depth) + 1

abbrev pub decreases-opposite : goal.decreases-opposite
decreases-opposite l = 4 * (level_limit - l.depth)

abbrev pub decreases-enclosed : goal.decreases-enclosed
decreases-enclosed l = 4 * (level_limit - l.depth)

abbrev pub invariant-guard-loop-parts : goal.invariant-guard-loop-parts
invariant-guard-loop-parts l = record {
  tree : PartsSoFar grammar.name (map guard_of l.parts.items) (tokens_of l.fn.self.rest.now) (tokens_of l.self.rest.now);
  some : 2 ≤ length l.parts.items;
  run : (more : List due.Symbol) (os : List Open) → length os ≡ l.depth → IsSettled os → outcome (due.rule due.guard ∷ more) os (tokens_of l.fn.self.rest.now) ≡ outcome (due.repeat due.another_part ∷ more) os (tokens_of l.self.rest.now);
  shorter : length l.self.rest.now < length l.fn.self.rest.now;
}

abbrev pub decreases-guard-loop-parts : goal.decreases-guard-loop-parts
decreases-guard-loop-parts l = length l.self.rest.now

abbrev pub invariant-part-loop-units : goal.invariant-part-loop-units
invariant-part-loop-units l = record {
  tree : UnitsSoFar grammar.name (map guard_of l.units.items) (tokens_of l.fn.self.rest.now) (tokens_of l.self.rest.now);
  some : 2 ≤ length l.units.items;
  run : (more : List due.Symbol) (os : List Open) → length os ≡ l.depth → IsSettled os → outcome (due.rule due.part ∷ more) os (tokens_of l.fn.self.rest.now) ≡ outcome (due.repeat due.another_unit ∷ more) os (tokens_of l.self.rest.now);
  shorter : length l.self.rest.now < length l.fn.self.rest.now;
}

abbrev pub decreases-part-loop-units : goal.decreases-part-loop-units
decreases-part-loop-units l = length l.self.rest.now
