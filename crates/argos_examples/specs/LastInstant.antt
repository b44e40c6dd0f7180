-- A body that also reacts in the instant in which its state is left.
use Rattle.std.specs.Prelude.{[], ◌∷◌, codes}
use Rattle.argos_core.specs.Process.{present, Process, automaton, States, no_states, state, body, PlainModule}
use Rattle.argos_examples.specs.Building.{when, untimed, plain}

-- a = 0; x = 1, y = 2
abbrev pub inside : Process
inside = automaton (plain (codes "I") (when (present 0) (1 ∷ []) 0 ∷ []) no_states) 0

abbrev pub last_instant_states : States
last_instant_states =
    state (untimed (codes "P") (when (present 0) (2 ∷ []) 1 ∷ [])) (body inside)
    (plain (codes "Q") []
    no_states)

abbrev pub last_instant : PlainModule
last_instant = record { process = automaton last_instant_states 0; inputs = codes "a" ∷ []; outputs = codes "x" ∷ codes "y" ∷ []; locals = [] }
