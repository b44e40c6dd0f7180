use Rattle.std.proofs.Common.{◌≡◌, map, drop}
use Rattle.argos_core.specs.Automata.{registers_of, registers_in}
use Rattle.argos_core.specs.inner.Reading.{skipped}
use Rattle.argos_core.specs.Views.{process_of, processes_of, state_of, states_of}
use Rattle.argos_core.proofs.decoder.Decoder.+off.Given as goal

-- the zeros of what is left decide
abbrev pub invariant-parts_off-loop-part : goal.invariant-parts_off-loop-part
invariant-parts_off-loop-part l = skipped (registers_of (processes_of (map process_of (drop l.part-index l.parts)))) l.self.rest.now ≡ skipped (registers_of (processes_of (map process_of l.parts))) l.initial.self.rest.now

abbrev pub invariant-states_off-loop-state : goal.invariant-states_off-loop-state
invariant-states_off-loop-state l = skipped (registers_in (states_of (map state_of (drop l.state-index l.states)))) l.self.rest.now ≡ skipped (registers_in (states_of (map state_of l.states))) l.initial.self.rest.now
