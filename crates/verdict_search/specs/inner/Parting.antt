-- How parts of the cyclic bits are found. Source: this project.
use Rattle.std.specs.Prelude.{◌≡◌, ℕ, ◌+◌, ◌<◌, List, Some, nat_eq, if◌then◌else◌, length, slice_index_or}
use Rattle.dd_core.specs.declared.nodes.Node.{Node}
use Rattle.dd_core.specs.declared.nodes.NodeId.{NodeId}
use Rattle.dd_core.specs.Diagrams.{Nodes, node_at}
use Rattle.dd_ops.specs.Listed.{IsUnder}
use Rattle.verdict_search.specs.Parts.{part_of}

-- some node under f tests the variable
pub record Tests (nodes : Nodes) (k : ℕ) (f : NodeId) : Type 0 where
  pub node : NodeId
  pub under : IsUnder nodes f node
  pub triple : Node
  pub is : node_at nodes node.0 ≡ Some triple
  pub tested : triple.variable ≡ k

-- each of the bits is in one part with those whose variables its function reads
abbrev pub AreClosed : Nodes → ℕ → List NodeId → List ℕ → Type 0
AreClosed nodes a bits labels = (i j : ℕ) → i < length bits → j < length labels → Tests nodes (a + j) (slice_index_or bits i (record { 0 = 0 })) → part_of labels j ≡ part_of labels i

-- the label `kept` in place of the label `left`
abbrev pub relabelled : ℕ → ℕ → ℕ → ℕ
relabelled left kept p = if nat_eq p left then kept else p

abbrev pub IsRelabelled : ℕ → ℕ → List ℕ → List ℕ → Type 0
IsRelabelled left kept old new = (k : ℕ) → k < length old → part_of new k ≡ relabelled left kept (part_of old k)

-- what was in one part is in one part
abbrev pub KeepsTogether : List ℕ → List ℕ → Type 0
KeepsTogether old new = (i j : ℕ) → i < length old → j < length old → part_of old i ≡ part_of old j → part_of new i ≡ part_of new j
