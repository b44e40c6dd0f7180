use Rattle.std.proofs.Common.{◌≡◌, ◌+◌, ◌<◌, map, drop, length}
use Rattle.argos_core.specs.Automata.{rules_of}
use Rattle.argos_core.specs.Modules.{AreShapedStates}
use Rattle.argos_core.specs.inner.Reading.{place_in, place_behind, shifted}
use Rattle.argos_core.specs.Views.{state_of, states_of}
use Rattle.argos_core.proofs.decoder.place.Given as goal

-- the place is among the states that are left, with so many codes less before it
abbrev pub invariant-loop-state : goal.invariant-loop-state
invariant-loop-state l = record {
  number : l.number ≡ l.state-index;
  small : l.number + l.before < 65535;
  shaped : AreShapedStates (length (rules_of (states_of (map state_of l.states)))) (states_of (map state_of (drop l.state-index l.states)));
  place : shifted l.number (place_behind (states_of (map state_of (drop l.state-index l.states))) l.before) ≡ place_in (states_of (map state_of l.states)) l.code;
}
