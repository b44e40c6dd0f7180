-- Two local signals, each of which is emitted where the other is present.
use Rattle.std.specs.Prelude.{ℕ, [], ◌∷◌, codes}
use Rattle.argos_core.specs.Process.{present, Process, automaton, parallel, local, no_processes, process, States, no_states, PlainModule}
use Rattle.argos_examples.specs.Building.{when, plain}

-- x = 0; the locals a = 1 and b = 2
abbrev pub part_states : ℕ → ℕ → States
part_states reads emits = plain (codes "S") (when (present reads) (emits ∷ 0 ∷ []) 0 ∷ []) no_states

abbrev pub part : ℕ → ℕ → Process
part reads emits = automaton (part_states reads emits) 0

abbrev pub mutual_support : PlainModule
mutual_support = record {
  process = local (1 ∷ 2 ∷ []) (parallel (process (part 1 2) (process (part 2 1) no_processes)));
  inputs = [];
  outputs = codes "x" ∷ [];
  locals = codes "a" ∷ codes "b" ∷ [];
}
