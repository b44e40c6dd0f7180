-- The toggle: each second instant with `a` emits `o`.
use Rattle.std.specs.Prelude.{[], ◌∷◌, codes}
use Rattle.argos_core.specs.Process.{present, States, no_states, automaton, PlainModule}
use Rattle.argos_examples.specs.Building.{when, plain}

-- a = 0; o = 1
abbrev pub toggle_states : States
toggle_states =
    plain (codes "Off") (when (present 0) [] 1 ∷ [])
    (plain (codes "On") (when (present 0) (1 ∷ []) 0 ∷ [])
    no_states)

abbrev pub toggle : PlainModule
toggle = record { process = automaton toggle_states 0; inputs = codes "a" ∷ []; outputs = codes "o" ∷ []; locals = [] }
