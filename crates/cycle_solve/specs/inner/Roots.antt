-- The roots of the cyclic bits.
use Rattle.std.specs.Prelude.{◌≡◌, ℕ, ◌+◌, ◌<◌, List, length, All}
use Rattle.argos_core.specs.Layouts.{RegisterShape}
use Rattle.dd_core.specs.declared.nodes.NodeId.{NodeId}
use Rattle.dd_core.specs.Arenas.{ArenaView, IsArena, Holds}
use Rattle.eqn_completion.specs.Binary.{digits_in}
use Rattle.eqn_completion.specs.Findings.{Finding}
use Rattle.eqn_core.specs.Equations.{Equations}
use Rattle.eqn_dd.specs.Structural.{widths_of}
use Rattle.eqn_verdict.specs.Searching.{Test}
use Rattle.eqn_verdict.specs.Solved.{in_least}
use Rattle.eqn_verdict.specs.Verdicts.{AreWidths, AreFindings}
use Rattle.instant_verdict.specs.inner.Searched.{node_or_false}
use Rattle.verdict_search.specs.Roots.{AllReact}
use Rattle.verdict_search.specs.Splitting.{IsTestOf}

-- for some functions that say what the system does, each root denotes where its cyclic bit is in the
-- least consistent values
pub record AreRootsOf (E : Equations) (layout : List RegisterShape) (cyclic : List ℕ) (arena : ArenaView)
    (roots : List NodeId) : Type 0 where
  pub structural : Test
  pub consistent : Finding
  pub results : List Finding
  pub wide : AreWidths layout (widths_of layout)
  pub are : AreFindings E layout cyclic (widths_of layout) structural consistent results
  pub react : AllReact (digits_in (widths_of layout) + E.inputs) (length cyclic) structural consistent
  pub valid : IsArena arena
  pub variables : arena.variables ≡ digits_in (widths_of layout) + E.inputs + length cyclic
  pub held : All (λ (f : NodeId). Holds arena f.0) roots
  pub sized : length roots ≡ length cyclic
  pub least : (j : ℕ) → j < length cyclic
      → IsTestOf arena (digits_in (widths_of layout) + E.inputs) (length cyclic) (node_or_false roots j).0
      (in_least (length cyclic) structural consistent j)
