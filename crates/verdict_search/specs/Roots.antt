-- Nodes of the least consistent values. Source: this project.
use Rattle.std.specs.Prelude.{◌≡◌, ℕ, ◌+◌, ◌<◌, List, true, length, slice_index_or}
use Rattle.argos_base.specs.SignalSets.{SignalSet}
use Rattle.dd_core.specs.declared.nodes.NodeId.{NodeId}
use Rattle.dd_core.specs.Arenas.{ArenaView}
use Rattle.eqn_completion.specs.Findings.{Finding}
use Rattle.eqn_verdict.specs.Diagrams.{Splits}
use Rattle.eqn_verdict.specs.Searching.{Test, some}
use Rattle.eqn_verdict.specs.Solved.{in_least}
use Rattle.verdict_search.specs.Parts.{meet}
use Rattle.verdict_search.specs.Splitting.{IsTestOf}

-- each structural point has consistent values
abbrev pub AllReact : ℕ → ℕ → Test → Finding → Type 0
AllReact a c s K = (y : SignalSet) → length y ≡ a → s y ≡ true → some c (K y) ≡ true

-- where the nodes denoted before which points are structural, and all nodes of the parts were true where the cyclic bits are consistent, and each structural point has consistent values: root j is true where cyclic bit j is in the least ones
abbrev pub AreLeastOnes : ArenaView → ArenaView → ℕ → ℕ → List NodeId → List NodeId → Type 0
AreLeastOnes old new a structural parts roots = (c : ℕ) (s : Test) (K : Finding) → old.variables ≡ a + c → IsTestOf old a c structural s → Splits a c (meet old parts) K → AllReact a c s K
    → (j : ℕ) → j < c → IsTestOf new a c (slice_index_or roots j (record { 0 = 0 })).0 (in_least c s K j)
