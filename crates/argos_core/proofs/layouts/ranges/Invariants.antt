use Rattle.std.proofs.Common.{◌≡◌, ◌+◌, ◌≤◌, ◌++◌, map, drop, length}
use Rattle.argos_core.specs.Automata.{code_count, rules_of}
use Rattle.argos_core.specs.Layouts.{ranges_from}
use Rattle.argos_core.specs.Modules.{AreShapedStates}
use Rattle.argos_core.specs.Views.{state_of, states_of, range_of}
use Rattle.argos_core.proofs.layouts.ranges.Given as goal

-- so many codes are used so far, and with the codes of the states that are left come all
abbrev pub invariant-loop-state : goal.invariant-loop-state
invariant-loop-state l = record {
  counted : l.used + code_count (states_of (map state_of (drop l.state-index l.states))) ≤ 65535;
  shaped : AreShapedStates (length (rules_of (states_of (map state_of l.states)))) (states_of (map state_of (drop l.state-index l.states)));
  ranges : map range_of l.ranges.items ++ ranges_from (l.used + 1) (rules_of (states_of (map state_of (drop l.state-index l.states)))) ≡ ranges_from 1 (rules_of (states_of (map state_of l.states)));
}
