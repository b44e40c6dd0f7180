-- What a system is whose cycles are solved. Source: this project.
use Rattle.std.specs.Prelude.{◌≡◌, ◌↔◌, ◌≤◌, ℕ, ◌+◌, ◌*◌, List, length}
use Rattle.argos_base.specs.SignalSets.{SignalSet}
use Rattle.argos_core.specs.Layouts.{RegisterShape, FitsLayout}
use Rattle.cycle_solve.specs.LeastFunctions.{HaveLeastNodes}
use Rattle.eqn_completion.specs.Completions.{SystemChooses}
use Rattle.eqn_core.specs.Equations.{Equations, weight_of}
use Rattle.eqn_core.specs.Solutions.{SystemReacts}
use Rattle.eqn_dd.specs.Structural.{widths_of}
use Rattle.instant_verdict.specs.Jobs.{job_variables}

-- at the memories that fit the layout F has exactly the reactions of E
abbrev pub HasReactionsOn : List RegisterShape → Equations → Equations → Type 0
HasReactionsOn layout F E = (m : List ℕ) (i : SignalSet) → FitsLayout layout m → length i ≡ E.inputs
    → (o : SignalSet) (n : List ℕ) → (SystemReacts F m i o n) ↔ (SystemReacts E m i o n)

-- so many nodes have the diagrams of the functions that are true where the memory fits the layout and a cyclic bit is in
-- the least set of cyclic bits that a solution has
abbrev pub HaveSolvedNodes : Equations → List RegisterShape → List ℕ → ℕ → Type 0
HaveSolvedNodes E layout cyclic solved = HaveLeastNodes (SystemChooses E cyclic) (FitsLayout layout)
    (widths_of layout) E.inputs (length cyclic) solved

-- F is E with its cycles solved: the same inputs, initial codes and number of outputs, the reactions of
-- E where the memory fits the layout, and few lines and little weight more
pub record IsSolved (E : Equations) (layout : List RegisterShape) (cyclic : List ℕ) (F : Equations)
    (solved : ℕ) : Type 0 where
  pub inputs : F.inputs ≡ E.inputs
  pub initial : F.initial ≡ E.initial
  pub outputs : length F.outputs ≡ length E.outputs
  pub reactions : HasReactionsOn layout F E
  pub nodes : HaveSolvedNodes E layout cyclic solved
  pub lines : length F.lines ≤ length E.lines + 4 * solved + job_variables E layout cyclic
  pub weight : weight_of F ≤ weight_of E + 16 * solved + 4 * job_variables E layout cyclic
