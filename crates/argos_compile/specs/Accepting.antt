-- What an accepted module's ordered equations are. Source: this project.
use Rattle.std.specs.Prelude.{ℕ, ◌+◌, ◌*◌, ◌≤◌, List, length}
use Rattle.argos_core.specs.Codes.{IsStructural}
use Rattle.argos_core.specs.Layouts.{layout_of}
use Rattle.argos_core.specs.Process.{PlainModule}
use Rattle.argos_core.specs.Reactions.{input_count}
use Rattle.argos_core.specs.Sizes.{size_of}
use Rattle.argos_verdict.specs.Jobs.{AreCyclicSignals, reaction_variables}
use Rattle.argos_verdict.specs.Judgements.{IsAcceptable}
use Rattle.cycle_solve.specs.LeastFunctions.{HaveLeastNodes}
use Rattle.eqn_core.specs.Equations.{Equations, weight_of}
use Rattle.eqn_dd.specs.Structural.{widths_of}
use Rattle.eqn_scheme.specs.LocalSets.{ProgramChooses}
use Rattle.eqn_scheme.specs.SignalDependence.{IsCyclic}
use Rattle.argos_compile.specs.Systems.{IsSystemOf}

-- some local depends on itself
abbrev pub HasCycle : PlainModule → Type 0
HasCycle P = (k : ℕ) × IsCyclic P k

-- So many nodes, constants aside, have the reduced diagrams of these functions of register bits and inputs, one for each cyclic signal: true
-- exactly where the memory is structural and the signal is in the least set of cyclic signals that extends to all locals present in a reaction.
abbrev pub HaveLocalNodes : PlainModule → List ℕ → ℕ → Type 0
HaveLocalNodes P cyclic nodes = HaveLeastNodes (ProgramChooses P cyclic) (IsStructural P.process) (widths_of (layout_of P.process)) (input_count P) (length cyclic) nodes

-- Ordered equations of the module need no more than so many lines: eight for each unit of its size. Where locals depend on themselves, four
-- more for each node of the diagrams that tell the least set of them, and one for each variable of these.
pub data IsLineBound (P : PlainModule) : ℕ → Type 0 where
  acyclic : ¬ (HasCycle P) → IsLineBound P (8 * size_of P)
  solved : (cyclic : List ℕ) (nodes : ℕ) → HasCycle P → AreCyclicSignals P cyclic → HaveLocalNodes P cyclic nodes
      → IsLineBound P (8 * size_of P + 4 * nodes + reaction_variables P cyclic)

-- it is accepted, and these equations are its own, of at most so many lines, and at most four times that weight
pub record IsAccepted (P : PlainModule) (E : Equations) (most : ℕ) : Type 0 where
  pub acceptable : IsAcceptable P
  pub system : IsSystemOf P E
  pub bound : IsLineBound P most
  pub lines : length E.lines ≤ most
  pub weight : weight_of E ≤ 4 * most
