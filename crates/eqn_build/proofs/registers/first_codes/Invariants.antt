use Rattle.std.proofs.Common.{◌≡◌, ◌+◌, ◌≤◌, ◌++◌, map, drop, length}
use Rattle.argos_core.specs.Automata.{code_count}
use Rattle.argos_core.specs.Modules.{AreShapedStates}
use Rattle.argos_core.specs.Views.{state_of, states_of}
use Rattle.eqn_build.specs.inner.BuilderViews.{first_codes_from}
use Rattle.eqn_build.proofs.registers.first_codes.Given as goal

-- so many codes are used so far, and with the first codes of the states that are left come all
abbrev pub invariant-loop-state : goal.invariant-loop-state
invariant-loop-state l = record {
  counted : l.used + code_count (states_of (map state_of (drop l.state-index l.states))) ≤ 65535;
  shaped : AreShapedStates (length l.states) (states_of (map state_of (drop l.state-index l.states)));
  firsts : l.firsts.items ++ first_codes_from (l.used + 1) (states_of (map state_of (drop l.state-index l.states))) ≡ first_codes_from 1 (states_of (map state_of l.states));
}
