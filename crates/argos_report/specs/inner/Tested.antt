-- The program of the tests. Source: this project.
use Rattle.std.specs.Prelude.{ℕ, List, [], ◌∷◌, Option, Some, None, codes}
use Rattle.argos_core.specs.Process.{present, Transition, Timeout, Rules, Process, automaton, local, state, no_states, no_body, body}

-- without transitions
abbrev pub bare : List ℕ → Option Timeout → Rules
bare name w = record { name = name; transitions = []; timeout = w }

-- where the local is present, emit these signals and stay
abbrev pub loop_with : List ℕ → Transition
loop_with outs = record { guard = present 3; outs = outs; target = 0 }

abbrev pub loops : List Transition
loops = loop_with (2 ∷ []) ∷ loop_with [] ∷ []

-- on the third a go to state 1
abbrev pub third : Timeout
third = record { count = 3; signal = 0; outs = []; target = 1 }

abbrev pub inside : Process
inside = automaton (state (record { name = codes "I"; transitions = loops; timeout = None }) no_body no_states) 0

-- inputs a and b, the output o and the local l: P, in which I has two overlapping transitions, and Q
abbrev pub program : Process
program = local (3 ∷ []) (automaton (state (bare (codes "P") (Some third)) (body inside) (state (bare (codes "Q") None) no_body no_states)) 0)
