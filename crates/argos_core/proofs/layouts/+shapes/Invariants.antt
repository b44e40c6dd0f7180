use Rattle.std.proofs.Common.{◌≡◌, ◌+◌, ◌≤◌, ◌++◌, map, drop, length}
use Rattle.argos_core.specs.Automata.{code_count, rules_of, registers_of, registers_in}
use Rattle.argos_core.specs.Modules.{AreShapedParts, AreShapedStates}
use Rattle.argos_core.specs.inner.Shapes.{shapes_of_parts, shapes_in}
use Rattle.argos_core.specs.Views.{process_of, processes_of, state_of, states_of, parent_of, register_shape_of}
use Rattle.argos_core.proofs.layouts.+shapes.Given as goal

-- with the registers of the parts that are left come all
abbrev pub invariant-put_parts-loop-part : goal.invariant-put_parts-loop-part
invariant-put_parts-loop-part l = record {
  shaped : AreShapedParts (processes_of (map process_of (drop l.part-index l.parts)));
  grown : length l.regs.items + registers_of (processes_of (map process_of (drop l.part-index l.parts))) ≡ length l.initial.regs.items + registers_of (processes_of (map process_of l.parts));
  shapes : map register_shape_of l.regs.items ++ shapes_of_parts (length l.regs.items) (parent_of l.parent) (processes_of (map process_of (drop l.part-index l.parts))) ≡ map register_shape_of l.initial.regs.items ++ shapes_of_parts (length l.initial.regs.items) (parent_of l.parent) (processes_of (map process_of l.parts));
}

-- so many codes are used so far, and with the registers of the bodies that are left come all
abbrev pub invariant-put_states-loop-state : goal.invariant-put_states-loop-state
invariant-put_states-loop-state l = record {
  counted : l.used + code_count (states_of (map state_of (drop l.state-index l.states))) ≤ 65535;
  shaped : AreShapedStates (length (rules_of (states_of (map state_of l.states)))) (states_of (map state_of (drop l.state-index l.states)));
  grown : length l.regs.items + registers_in (states_of (map state_of (drop l.state-index l.states))) ≡ length l.initial.regs.items + registers_in (states_of (map state_of l.states));
  shapes : map register_shape_of l.regs.items ++ shapes_in (length l.regs.items) l.own.0 (l.used + 1) (states_of (map state_of (drop l.state-index l.states))) ≡ map register_shape_of l.initial.regs.items ++ shapes_in (length l.initial.regs.items) l.own.0 1 (states_of (map state_of l.states));
}
