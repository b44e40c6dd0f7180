use Rattle.std.proofs.Common.{◌≡◌, ◌++◌, map, drop}
use Rattle.argos_core.specs.Views.{process_of, processes_of, state_of, states_of}
use Rattle.argos_states.specs.Lent.{states_behind}
use Rattle.argos_states.specs.inner.Gathered.{gathered_of_parts, gathered_in}
use Rattle.argos_states.proofs.walking.+gathering.Given as goal

-- with what is left come all
abbrev pub invariant-add_parts-loop-part : goal.invariant-add_parts-loop-part
invariant-add_parts-loop-part l = states_behind l.all.items ++ gathered_of_parts (processes_of (map process_of (drop l.part-index l.parts))) ≡ states_behind l.initial.all.items ++ gathered_of_parts (processes_of (map process_of l.parts))

abbrev pub invariant-add_automaton-loop-state : goal.invariant-add_automaton-loop-state
invariant-add_automaton-loop-state l = states_behind l.all.items ++ gathered_in (states_of (map state_of (drop l.state-index l.states))) ≡ states_behind l.initial.all.items ++ gathered_in (states_of (map state_of l.states))
