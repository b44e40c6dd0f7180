use Rattle.std.proofs.Common.{◌≡◌, ◌+◌, map, drop}
use Rattle.argos_core.specs.Sizes.{parts_size, states_size}
use Rattle.argos_core.specs.Views.{process_of, processes_of, state_of, states_of}
use Rattle.argos_compile.proofs.sizes.+processes.Given as goal

-- with the parts that are left come all
abbrev pub invariant-parts_size-loop-part : goal.invariant-parts_size-loop-part
invariant-parts_size-loop-part l = l.size + parts_size (processes_of (map process_of (drop l.part-index l.parts))) ≡ parts_size (processes_of (map process_of l.parts))

-- and with the states that are left
abbrev pub invariant-states_size-loop-state : goal.invariant-states_size-loop-state
invariant-states_size-loop-state l = l.size + states_size (states_of (map state_of (drop l.state-index l.states))) ≡ states_size (states_of (map state_of l.states))
