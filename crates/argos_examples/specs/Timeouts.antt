-- A state that is left in the third instant with `t`, or with `g` before that.
use Rattle.std.specs.Prelude.{[], ◌∷◌, Some, codes}
use Rattle.argos_core.specs.Process.{present, automaton, States, no_states, state, no_body, PlainModule}
use Rattle.argos_examples.specs.Building.{when, plain}

-- t = 0, g = 1; x = 2, y = 3
abbrev pub timeouts_states : States
timeouts_states =
    state
    (record {
      name = codes "W";
      transitions = when (present 1) (3 ∷ []) 1 ∷ [];
      timeout = Some (record { count = 3; signal = 0; outs = 2 ∷ []; target = 1 });
    })
    no_body
    (plain (codes "D") (when (present 1) [] 0 ∷ [])
    no_states)

abbrev pub timeouts : PlainModule
timeouts = record { process = automaton timeouts_states 0; inputs = codes "t" ∷ codes "g" ∷ []; outputs = codes "x" ∷ codes "y" ∷ []; locals = [] }
