-- A transition of a refined state to itself, which starts the body again.
use Rattle.std.specs.Prelude.{[], ◌∷◌, codes}
use Rattle.argos_core.specs.Process.{present, Process, automaton, no_states, state, body, PlainModule}
use Rattle.argos_examples.specs.Building.{when, untimed, plain}

-- a = 0, b = 1; x = 2
abbrev pub inside : Process
inside = automaton (plain (codes "I") (when (present 0) [] 1 ∷ []) (plain (codes "J") (when (present 0) (2 ∷ []) 1 ∷ []) no_states)) 0

abbrev pub self_loop : PlainModule
self_loop = record {
  process = automaton (state (untimed (codes "P") (when (present 1) [] 0 ∷ [])) (body inside) no_states) 0;
  inputs = codes "a" ∷ codes "b" ∷ [];
  outputs = codes "x" ∷ [];
  locals = [];
}
