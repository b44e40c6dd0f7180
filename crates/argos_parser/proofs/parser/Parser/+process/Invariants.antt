use Rattle.std.proofs.Common.{◌≡◌, ◌<◌, ◌+◌, ◌-◌, ◌*◌, List, ◌∷◌, length}
use Rattle.argos_base.specs.Limits.{level_limit}
use Rattle.argos_tokens.specs.TokenViews.{tokens_of}
use Rattle.argos_grammar.specs.Views.{block_of, states_of}
use Rattle.argos_grammar.specs.Faults.{Open}
use Rattle.argos_grammar.specs.Runs.{outcome}
use Rattle.argos_grammar.specs.Runs.{IsSettled}
use Rattle.argos_grammar.specs.DueSymbols as due
use Rattle.argos_grammar.specs.Grammar as grammar
use Rattle.argos_parser.proofs.parser.Parser.+process.Given as goal

-- levels that are left, and the rules that begin with one another at one level
abbrev pub decreases-block : goal.decreases-block
decreases-block l = 8 * (level_limit - l.depth) + 0

abbrev pub decreases-body : goal.decreases-body
decreases-body l = 8 * (level_limit - l.depth) + 1

abbrev pub decreases-state : goal.decreases-state
decreases-state l = 8 * (level_limit - l.depth) + 2

abbrev pub decreases-states : goal.decreases-states
decreases-states l = 8 * (level_limit - l.depth) + 3

abbrev pub decreases-inside : goal.decreases-inside
decreases-inside l = 8 * (level_limit - l.depth) + 4

abbrev pub decreases-automaton : goal.decreases-automaton
decreases-automaton l = 8 * (level_limit - l.depth) + 5

abbrev pub decreases-local : goal.decreases-local
decreases-local l = 8 * (level_limit - l.depth) + 1

abbrev pub decreases-freeze : goal.decreases-freeze
decreases-freeze l = 8 * (level_limit - l.depth) + 1

abbrev pub decreases-process : goal.decreases-process
decreases-process l = 8 * (level_limit - l.depth) + 6

abbrev pub decreases-processes : goal.decreases-processes
decreases-processes l = 8 * (level_limit - l.depth) + 7

abbrev pub invariant-processes-loop-processes : goal.invariant-processes-loop-processes
invariant-processes-loop-processes l = record {
  tree : grammar.processes (block_of l.processes.items) (tokens_of l.fn.self.rest.now) (tokens_of l.self.rest.now);
  run : (more : List due.Symbol) (os : List Open) → length os ≡ l.depth → IsSettled os → outcome (due.rule due.process ∷ due.repeat due.another_process ∷ more) os (tokens_of l.fn.self.rest.now) ≡ outcome (due.repeat due.another_process ∷ more) os (tokens_of l.self.rest.now);
  shorter : length l.self.rest.now < length l.fn.self.rest.now;
}

abbrev pub decreases-processes-loop-processes : goal.decreases-processes-loop-processes
decreases-processes-loop-processes l = length l.self.rest.now

abbrev pub invariant-states-loop-states : goal.invariant-states-loop-states
invariant-states-loop-states l = record {
  tree : grammar.states (states_of l.states.items) (tokens_of l.fn.self.rest.now) (tokens_of l.self.rest.now);
  run : (more : List due.Symbol) (os : List Open) → length os ≡ l.depth → IsSettled os → outcome (due.rule due.state ∷ due.repeat due.state ∷ more) os (tokens_of l.fn.self.rest.now) ≡ outcome (due.repeat due.state ∷ more) os (tokens_of l.self.rest.now);
  shorter : length l.self.rest.now < length l.fn.self.rest.now;
}

abbrev pub decreases-states-loop-states : goal.decreases-states-loop-states
decreases-states-loop-states l = length l.self.rest.now
