use Rattle.std.proofs.Common.{◌≡◌, ◌+◌, ◌≤◌, ◌++◌, map, drop, length}
use Rattle.argos_core.specs.Automata.{registers_of, registers_in}
use Rattle.argos_core.specs.Modules.{AreShapedParts, AreShapedStates}
use Rattle.argos_core.specs.Views.{process_of, processes_of, state_of, states_of}
use Rattle.eqn_core.specs.Views.{literal_of, line_of}
use Rattle.eqn_scheme.specs.Scheme.{parts_bits, parts_lines, parts_fires, bodies_bits, bodies_fires}
use Rattle.eqn_build.specs.inner.BuilderViews.{fire_bit_of, exit_bits_of, literals_at, shifted, placed_bodies, starts_of}
use Rattle.eqn_build.proofs.processes.+processes.Given as goal

-- with what the parts give that are left comes all
abbrev pub invariant-put_parts-loop-part : goal.invariant-put_parts-loop-part
invariant-put_parts-loop-part l = record {
  shaped : AreShapedParts (processes_of (map process_of (drop l.part-index l.parts)));
  next : l.next + registers_of (processes_of (map process_of (drop l.part-index l.parts))) ≡ l.initial.next + registers_of (processes_of (map process_of l.parts));
  bits : l.builder.bits + parts_bits (processes_of (map process_of (drop l.part-index l.parts))) ≡ l.initial.builder.bits + parts_bits (processes_of (map process_of l.parts));
  one : l.builder.one ≡ l.initial.builder.one;
  lines : map line_of l.builder.lines.items ++ parts_lines (processes_of (map process_of (drop l.part-index l.parts))) l.builder.one l.builder.bits l.next (literal_of l.around.run) (literal_of l.around.start) (literal_of l.around.kill) ≡ map line_of l.initial.builder.lines.items ++ parts_lines (processes_of (map process_of l.parts)) l.initial.builder.one l.initial.builder.bits l.initial.next (literal_of l.around.run) (literal_of l.around.start) (literal_of l.around.kill);
  fires : map fire_bit_of l.fires.items ++ parts_fires (processes_of (map process_of (drop l.part-index l.parts))) l.builder.bits ≡ map fire_bit_of l.initial.fires.items ++ parts_fires (processes_of (map process_of l.parts)) l.initial.builder.bits;
}

-- with what the bodies give that are left comes all
abbrev pub invariant-put_bodies-loop-number : goal.invariant-put_bodies-loop-number
invariant-put_bodies-loop-number l = record {
  shaped : AreShapedStates (length l.states) (states_of (map state_of (drop l.number l.states)));
  next : l.next + registers_in (states_of (map state_of (drop l.number l.states))) ≡ l.initial.next + registers_in (states_of (map state_of l.states));
  bits : l.builder.bits + bodies_bits (states_of (map state_of (drop l.number l.states))) ≡ l.initial.builder.bits + bodies_bits (states_of (map state_of l.states));
  one : l.builder.one ≡ l.initial.builder.one;
  lines : map line_of l.builder.lines.items ++ placed_bodies (states_of (map state_of (drop l.number l.states))) l.builder.one l.go l.next (map exit_bits_of (drop l.number l.exits)) (shifted (literals_at l.enters) l.number) (shifted (starts_of l.begin.state (literal_of l.begin.start)) l.number) l.builder.bits ≡ map line_of l.initial.builder.lines.items ++ placed_bodies (states_of (map state_of l.states)) l.initial.builder.one l.go l.initial.next (map exit_bits_of l.exits) (literals_at l.enters) (starts_of l.begin.state (literal_of l.begin.start)) l.initial.builder.bits;
  fires : map fire_bit_of l.fires.items ++ bodies_fires (states_of (map state_of (drop l.number l.states))) l.builder.bits ≡ map fire_bit_of l.initial.fires.items ++ bodies_fires (states_of (map state_of l.states)) l.initial.builder.bits;
}
