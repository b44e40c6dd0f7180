-- States that are lent by a program. Source: this project.
use Rattle.std.specs.Prelude.{List, map}
use Rattle.std.specs.Borrow.{Bor}
use Rattle.argos_core.specs.Process.{States}
use Rattle.argos_core.specs.Views.{state_of, states_of}
use Rattle.argos_core.specs.declared.prog.State.{State}

-- of each automaton the states that are lent
abbrev pub states_behind : List (Bor (List State)) → List States
states_behind = map (λ states. states_of (map state_of states.now))
