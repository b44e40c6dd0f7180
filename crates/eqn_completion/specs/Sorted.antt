-- A system without cyclic bits, with its lines in the order of a plan. Source: this project.
use Rattle.std.specs.Prelude.{ℕ, List, [], map}
use Rattle.eqn_core.specs.Equations.{Equations, registers}
use Rattle.eqn_completion.specs.Moving.{Tables, moved_lines, tables_after}

-- inputs and registers keep their numbers, and the lines get those behind them
abbrev pub first_numbers : Equations → Tables
first_numbers E = record { bits = λ k. k; words = λ k. k; next_bit = E.inputs; next_word = registers E }

-- the numbers behind all lines of the order
abbrev pub sorted_numbers : Equations → List ℕ → Tables
sorted_numbers E order = tables_after E [] order (first_numbers E)

-- the system with its lines in this order
abbrev pub sorted_system : Equations → List ℕ → Equations
sorted_system E order = record {
  inputs = E.inputs;
  initial = E.initial;
  lines = moved_lines E [] order (first_numbers E);
  outputs = map (sorted_numbers E order).bits E.outputs;
  locals = [];
  next = map (sorted_numbers E order).words E.next;
}
