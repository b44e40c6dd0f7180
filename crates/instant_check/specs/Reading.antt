-- The signals that a state's guards read. Source: this project.
use Rattle.std.specs.Prelude.{ℕ, List, filter}
use Rattle.std.specs.List.{range_with_len}
use Rattle.argos_core.specs.Overlaps.{some_reads}
use Rattle.argos_core.specs.Process.{Transition}

-- of the numbers below n those that the guards of the transitions read, in order
abbrev pub signals_read : ℕ → List Transition → List ℕ
signals_read n ts = filter (some_reads ts) (range_with_len 0 n)
