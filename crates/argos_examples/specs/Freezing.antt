-- A body that stands still while `f` is present, and is dropped and started all the same.
use Rattle.std.specs.Prelude.{[], ◌∷◌, codes}
use Rattle.argos_core.specs.Process.{present, Process, automaton, freeze, States, no_states, state, body, PlainModule}
use Rattle.argos_examples.specs.Building.{when, untimed, plain}

-- a = 0, f = 1, k = 2; x = 3
abbrev pub inside : Process
inside = freeze 1 (automaton (plain (codes "I") (when (present 0) [] 1 ∷ []) (plain (codes "J") (when (present 0) (3 ∷ []) 1 ∷ []) no_states)) 0)

abbrev pub freezing_states : States
freezing_states =
    state (untimed (codes "P") (when (present 2) [] 1 ∷ [])) (body inside)
    (plain (codes "Q") (when (present 2) [] 0 ∷ [])
    no_states)

abbrev pub freezing : PlainModule
freezing = record { process = automaton freezing_states 0; inputs = codes "a" ∷ codes "f" ∷ codes "k" ∷ []; outputs = codes "x" ∷ []; locals = [] }
