-- The states of a process, automaton by automaton in the order of registers. Source: this project.
use Rattle.std.specs.Prelude.{List, [], ◌∷◌, ◌++◌}
use Rattle.argos_core.specs.Process.{Process, automaton, parallel, local, freeze, Processes, no_processes, process, States, no_states, state, Body, no_body, body}

-- of each automaton its states
abbrev mutual
  pub gathered : Process → List States
  gathered (automaton ss q) = ss ∷ gathered_in ss
  gathered (parallel ps) = gathered_of_parts ps
  gathered (local list p) = gathered p
  gathered (freeze s p) = gathered p

  pub gathered_of_parts : Processes → List States
  gathered_of_parts no_processes = []
  gathered_of_parts (process p ps) = gathered p ++ gathered_of_parts ps

  -- those in the bodies of states
  pub gathered_in : States → List States
  gathered_in no_states = []
  gathered_in (state s p ss) = gathered_within p ++ gathered_in ss

  pub gathered_within : Body → List States
  gathered_within no_body = []
  gathered_within (body p) = gathered p
