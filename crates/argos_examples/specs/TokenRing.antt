-- A ring of three cells that pass a token on: a request with the token is granted, and without a request the token goes on.
use Rattle.std.specs.Prelude.{ℕ, List, [], ◌∷◌, codes}
use Rattle.argos_core.specs.Process.{present, negation, Transition, Process, automaton, parallel, local, no_processes, process, States, no_states, PlainModule}
use Rattle.argos_examples.specs.Building.{when, both, plain}

-- token p, request r, next token q, grant g
abbrev pub without_token : ℕ → ℕ → ℕ → ℕ → List Transition
without_token p r q g = when (both (present p) (present r)) (g ∷ []) 0 ∷ when (both (present p) (negation (present r))) (q ∷ []) 0 ∷ []

abbrev pub cell_states : ℕ → ℕ → ℕ → ℕ → States
cell_states p r q g =
    plain (codes "N") (without_token p r q g)
    (plain (codes "T") (when (present r) (g ∷ []) 1 ∷ when (negation (present r)) (q ∷ []) 1 ∷ [])
    no_states)

abbrev pub cell : ℕ → ℕ → ℕ → ℕ → Process
cell p r q g = automaton (cell_states p r q g) 0

-- r0 to r2 = 0 to 2; g0 to g2 = 3 to 5; the locals p0 to p2 = 6 to 8
abbrev pub token_ring : PlainModule
token_ring = record {
  process = local (6 ∷ 7 ∷ 8 ∷ []) (parallel (process (cell 6 0 7 3) (process (cell 7 1 8 4) (process (cell 8 2 6 5) no_processes))));
  inputs = codes "r0" ∷ codes "r1" ∷ codes "r2" ∷ [];
  outputs = codes "g0" ∷ codes "g1" ∷ codes "g2" ∷ [];
  locals = codes "p0" ∷ codes "p1" ∷ codes "p2" ∷ [];
}
