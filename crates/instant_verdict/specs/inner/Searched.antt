-- What the search over a system's diagrams finds.
use Rattle.std.specs.Prelude.{ℕ, ◌+◌, ◌*◌, List, length, slice_index_or}
use Rattle.argos_core.specs.Layouts.{RegisterShape}
use Rattle.dd_core.specs.declared.nodes.NodeId.{NodeId}
use Rattle.eqn_completion.specs.Binary.{digits_in}
use Rattle.eqn_completion.specs.Findings.{Finding}
use Rattle.eqn_core.specs.Equations.{Equations}
use Rattle.eqn_dd.specs.Structural.{widths_of}
use Rattle.eqn_verdict.specs.Searching.{Test}
use Rattle.eqn_verdict.specs.Verdicts.{AreWidths, AreFindings}
use Rattle.verdict_search.specs.Outcomes.{IsFound, AreSized}
use Rattle.verdict_search.specs.declared.finding.Found.{Found}

-- the node at a place, the constant false where there is none
abbrev pub node_or_false : List NodeId → ℕ → NodeId
node_or_false nodes k = slice_index_or nodes k (record { 0 = 0 })

-- for some functions that say what the system does, this is the verdict
pub record IsVerdictFound (E : Equations) (layout : List RegisterShape) (cyclic : List ℕ) (found : Found) : Type 0 where
  pub structural : Test
  pub consistent : Finding
  pub results : List Finding
  pub wide : AreWidths layout (widths_of layout)
  pub are : AreFindings E layout cyclic (widths_of layout) structural consistent results
  pub is : IsFound (digits_in (widths_of layout) + E.inputs) (length cyclic) structural consistent results found
  pub sized : AreSized (digits_in (widths_of layout) + E.inputs) (length E.outputs + 16 * length E.next) found
