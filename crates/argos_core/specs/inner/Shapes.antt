-- What a process adds to a layout, from this register on. Source: this project.
use Rattle.std.specs.Prelude.{ℕ, ◌+◌, ◌-◌, List, [], ◌∷◌, ◌++◌, Option, Some}
use Rattle.argos_core.specs.Automata.{Parent, counts_of, code_count, first_code, rules_of, register_count, registers_within}
use Rattle.argos_core.specs.Layouts.{RegisterShape, ranges_from}
use Rattle.argos_core.specs.Process.{Process, automaton, parallel, local, freeze, Processes, no_processes, process, States, no_states, state, Body, no_body, body}

-- the register of an automaton with these states and this initial one
abbrev pub shape_with : Option Parent → States → ℕ → RegisterShape
shape_with up ss q = record { top = code_count ss; initial = first_code ss q; ranges = ranges_from 1 (rules_of ss); parent = up }

-- of a process, of parts, of the bodies of an automaton's states from the one with this first code on, and of a body
abbrev mutual
  pub shapes_from : ℕ → Option Parent → Process → List RegisterShape
  shapes_from r up (automaton ss q) = shape_with up ss q ∷ shapes_in (r + 1) r 1 ss
  shapes_from r up (parallel ps) = shapes_of_parts r up ps
  shapes_from r up (local list p) = shapes_from r up p
  shapes_from r up (freeze s p) = shapes_from r up p

  pub shapes_of_parts : ℕ → Option Parent → Processes → List RegisterShape
  shapes_of_parts r up no_processes = []
  shapes_of_parts r up (process p ps) = shapes_from r up p ++ shapes_of_parts (r + register_count p) up ps

  pub shapes_in : ℕ → ℕ → ℕ → States → List RegisterShape
  shapes_in r own code no_states = []
  shapes_in r own code (state s p ss) = shapes_within r (record { register = own; first = code; last = code + counts_of s.timeout - 1 }) p ++ shapes_in (r + registers_within p) own (code + counts_of s.timeout) ss

  pub shapes_within : ℕ → Parent → Body → List RegisterShape
  shapes_within r up no_body = []
  shapes_within r up (body p) = shapes_from r (Some up) p
