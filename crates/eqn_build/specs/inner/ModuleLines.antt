-- The lines of a module from its parts.
use Rattle.std.specs.Prelude.{ℕ, suc, ◌+◌, List, [], ◌∷◌, ◌++◌}
use Rattle.argos_core.specs.Process.{Process}
use Rattle.eqn_core.specs.Equations.{Line}
use Rattle.eqn_core.specs.Equations as lines
use Rattle.eqn_scheme.specs.Scheme.{plus, minus, process_fires, process_lines, signal_lines}

-- those of a process with so many inputs and other signals
abbrev pub module_lines : Process → ℕ → ℕ → List Line
module_lines p inputs others = let n = inputs + others in signal_lines (process_fires p (n + 1)) inputs others ++ lines.all [] ∷ process_lines p n (n + 1) 0 (plus n) (minus n) (minus n)
