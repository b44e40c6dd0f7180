use Rattle.std.proofs.Common.{◌≡◌, ◌+◌, map, drop}
use Rattle.argos_core.specs.Automata.{code_count}
use Rattle.argos_core.specs.Views.{state_of, states_of}
use Rattle.argos_core.proofs.codes.code_count.Given as goal

abbrev pub invariant-loop-state : goal.invariant-loop-state
invariant-loop-state l = l.count + code_count (states_of (map state_of (drop l.state-index l.states))) ≡ code_count (states_of (map state_of l.states))
