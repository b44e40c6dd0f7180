-- Where the cyclic bits are consistent. Source: this project.
use Rattle.std.specs.Prelude.{ℕ, List, map, length}
use Rattle.dd_core.specs.declared.nodes.NodeId.{NodeId}
use Rattle.dd_core.specs.Arenas.{ArenaView}
use Rattle.eqn_completion.specs.Findings.{Finding}
use Rattle.eqn_verdict.specs.Diagrams.{Splits, are_same}
use Rattle.verdict_search.specs.Parts.{meet}
use Rattle.verdict_search.specs.Splitting.{AreSplit}

-- all nodes of the parts are true where the functions that the nodes denoted before have the values of the cyclic bits
abbrev pub IsConsistency : ArenaView → ArenaView → ℕ → List NodeId → List NodeId → Type 0
IsConsistency old new a bits parts = (fs : List Finding) → AreSplit old a (length bits) bits fs → Splits a (length bits) (meet new parts) (λ y x. are_same (map (λ (g : Finding). g y x) fs) x)
