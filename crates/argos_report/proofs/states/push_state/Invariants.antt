use Rattle.std.proofs.Common.{◌≡◌, map, drop}
use Rattle.argos_core.specs.Views.{state_of, states_of}
use Rattle.argos_report.specs.States.{state_text}
use Rattle.argos_report.proofs.states.push_state.Given as goal

-- nothing is told so far, and the states that are left tell the same
abbrev pub invariant-loop-state : goal.invariant-loop-state
invariant-loop-state l = record {
  untold : l.text.items ≡ l.initial.text.items;
  same : state_text (states_of (map state_of (drop l.state-index l.states))) l.left ≡ state_text (states_of (map state_of l.states)) l.code;
}
