use Rattle.std.proofs.Common.{◌≡◌, ◌++◌, map, drop, replicate}
use Rattle.argos_core.specs.Automata.{registers_of, registers_in}
use Rattle.argos_core.specs.Views.{process_of, state_of, processes_of, states_of}
use Rattle.argos_core.proofs.codes.+off.Given as goal

-- with what is left come all zeros
abbrev pub invariant-parts_off-loop-part : goal.invariant-parts_off-loop-part
invariant-parts_off-loop-part l = l.codes.items ++ replicate (registers_of (processes_of (map process_of (drop l.part-index l.parts)))) 0 ≡ l.initial.codes.items ++ replicate (registers_of (processes_of (map process_of l.parts))) 0

abbrev pub invariant-states_off-loop-state : goal.invariant-states_off-loop-state
invariant-states_off-loop-state l = l.codes.items ++ replicate (registers_in (states_of (map state_of (drop l.state-index l.states)))) 0 ≡ l.initial.codes.items ++ replicate (registers_in (states_of (map state_of l.states))) 0
