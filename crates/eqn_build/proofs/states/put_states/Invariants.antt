use Rattle.std.proofs.Common.{◌≡◌, ◌+◌, ◌≤◌, ◌++◌, map, drop, length}
use Rattle.argos_core.specs.Automata.{code_count}
use Rattle.argos_core.specs.Modules.{AreShapedStates}
use Rattle.argos_core.specs.Views.{state_of, states_of}
use Rattle.eqn_core.specs.Views.{literal_of, line_of}
use Rattle.eqn_scheme.specs.Scheme.{own_bits, own_lines, own_fires, own_ticks}
use Rattle.eqn_build.specs.inner.BuilderViews.{fire_bit_of, exit_bits_of, own_exits}
use Rattle.eqn_build.proofs.states.put_states.Given as goal

-- so many codes are used so far, and with what the states give that are left comes all
abbrev pub invariant-loop-state : goal.invariant-loop-state
invariant-loop-state l = record {
  counted : l.used + code_count (states_of (map state_of (drop l.state-index l.states))) ≤ 65535;
  shaped : AreShapedStates (length l.states) (states_of (map state_of (drop l.state-index l.states)));
  bits : l.builder.bits + own_bits (states_of (map state_of (drop l.state-index l.states))) ≡ l.initial.builder.bits + own_bits (states_of (map state_of l.states));
  one : l.builder.one ≡ l.initial.builder.one;
  lines : map line_of l.builder.lines.items ++ own_lines (states_of (map state_of (drop l.state-index l.states))) l.builder.one (literal_of l.around.run) l.register (l.used + 1) l.builder.bits ≡ map line_of l.initial.builder.lines.items ++ own_lines (states_of (map state_of l.states)) l.initial.builder.one (literal_of l.around.run) l.register 1 l.initial.builder.bits;
  fires : map fire_bit_of l.fires.items ++ own_fires (states_of (map state_of (drop l.state-index l.states))) l.builder.bits ≡ own_fires (states_of (map state_of l.states)) l.initial.builder.bits;
  ticks : l.ticks.items ++ own_ticks (states_of (map state_of (drop l.state-index l.states))) l.builder.bits ≡ own_ticks (states_of (map state_of l.states)) l.initial.builder.bits;
  exits : map exit_bits_of l.exits.items ++ own_exits (states_of (map state_of (drop l.state-index l.states))) (literal_of l.around.kill) l.builder.bits ≡ own_exits (states_of (map state_of l.states)) (literal_of l.around.kill) l.initial.builder.bits;
}
