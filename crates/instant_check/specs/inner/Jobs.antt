-- The states of a process, automaton by automaton in the order of registers. Source: this project.
use Rattle.std.specs.Prelude.{◌≡◌, ℕ, ◌<◌, ◌≤◌, List, [], ◌∷◌, ◌++◌, true, length}
use Rattle.argos_base.specs.Limits.{code_limit, size_limit}
use Rattle.argos_core.specs.Overlaps.{some_reads}
use Rattle.argos_core.specs.Process.{Transition, Process, automaton, parallel, local, freeze, Processes, no_processes, process, States, no_states, state, Body, no_body, body}

-- of each automaton the transitions of each state
abbrev pub Jobs : Type 0
Jobs = List (List (List Transition))

-- the transitions of each state of one automaton
abbrev pub transitions_in : States → List (List Transition)
transitions_in no_states = []
transitions_in (state s p ss) = s.transitions ∷ transitions_in ss

abbrev mutual
  pub jobs_of : Process → Jobs
  jobs_of (automaton ss q) = transitions_in ss ∷ jobs_in ss
  jobs_of (parallel ps) = jobs_of_parts ps
  jobs_of (local list p) = jobs_of p
  jobs_of (freeze s p) = jobs_of p

  pub jobs_of_parts : Processes → Jobs
  jobs_of_parts no_processes = []
  jobs_of_parts (process p ps) = jobs_of p ++ jobs_of_parts ps

  -- those in the bodies of states
  pub jobs_in : States → Jobs
  jobs_in no_states = []
  jobs_in (state s p ss) = jobs_within p ++ jobs_in ss

  pub jobs_within : Body → Jobs
  jobs_within no_body = []
  jobs_within (body p) = jobs_of p

-- the guards read signals below n, and the transitions keep their limit
pub record IsFitState (n : ℕ) (ts : List Transition) : Type 0 where
  pub few : length ts ≤ size_limit
  pub read : (k : ℕ) → some_reads ts k ≡ true → k < n

abbrev pub AreFitStates : ℕ → List (List Transition) → Type 0
AreFitStates n [] = Unit {0}
AreFitStates n (ts ∷ states) = IsFitState n ts × AreFitStates n states

-- the same of all states, and each automaton keeps its limit
abbrev pub AreFit : ℕ → Jobs → Type 0
AreFit n [] = Unit {0}
AreFit n (states ∷ jobs) = (length states ≤ code_limit) × AreFitStates n states × AreFit n jobs
