-- A local signal that is emitted exactly where it is absent.
use Rattle.std.specs.Prelude.{[], ◌∷◌, codes}
use Rattle.argos_core.specs.Process.{present, negation, automaton, local, States, no_states, PlainModule}
use Rattle.argos_examples.specs.Building.{when, plain}

-- the local a = 0
abbrev pub no_reaction_states : States
no_reaction_states = plain (codes "S") (when (negation (present 0)) (0 ∷ []) 0 ∷ []) no_states

abbrev pub no_reaction : PlainModule
no_reaction = record { process = local (0 ∷ []) (automaton no_reaction_states 0); inputs = []; outputs = []; locals = codes "a" ∷ [] }
