use Rattle.std.proofs.Common.{◌≡◌, ◌++◌, drop}
use Rattle.argos_grammar.specs.Views.{states_of}
use Rattle.argos_names.specs.Scope.{state_names}
use Rattle.argos_expansion.proofs.state_names.names_of.Given as goal

-- the names so far, and those of the states that are left
abbrev pub invariant-loop-state : goal.invariant-loop-state
invariant-loop-state l = l.names.items ++ state_names (states_of (drop l.state-index l.states)) ≡ state_names (states_of l.states)
