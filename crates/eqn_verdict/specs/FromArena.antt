-- The nodes of an arena as lines need them. Source: this project.
use Rattle.std.specs.Prelude.{◌≡◌, ◌⊎◌, ℕ, zero, suc, ◌+◌, ◌<◌, List, [], ◌∷◌, ◌++◌, Option, Some, None, Bool, false, map, length, take}
use Rattle.argos_base.specs.SignalSets.{SignalSet, has}
use Rattle.dd_core.specs.declared.nodes.Node.{Node}
use Rattle.dd_core.specs.declared.nodes.NodeId.{NodeId}
use Rattle.dd_core.specs.Diagrams.{Nodes, node_at}
use Rattle.dd_core.specs.Arenas.{ArenaView, IsArena, function_of}
use Rattle.dd_ops.specs.Listed.{IsUnder, IsListed, IsListing}
use Rattle.eqn_completion.specs.Binary.{digits_in}
use Rattle.eqn_verdict.specs.Branches.{Branch}
use Rattle.eqn_verdict.specs.Searching.{Test}
use Rattle.eqn_verdict.specs.Solved.{in_least, AreSolvedDiagrams}
use Rattle.eqn_completion.specs.Findings.{Finding}

abbrev pub of_node : ℕ → Option Node → Branch
of_node f None = record { id = f; variable = 0; low = 0; high = 0 }
of_node f (Some n) = record { id = f; variable = n.variable; low = n.low.0; high = n.high.0 }

abbrev pub branches_of : Nodes → List NodeId → List Branch
branches_of nodes [] = []
branches_of nodes (g ∷ ids) = of_node g.0 (node_at nodes g.0) ∷ branches_of nodes ids

abbrev pub root_ids : List NodeId → List ℕ
root_ids [] = []
root_ids (f ∷ roots) = f.0 ∷ root_ids roots

abbrev pub falses : ℕ → SignalSet
falses zero = []
falses (suc n) = false ∷ falses n

-- the ids are those of the nodes under the roots, children before parents; and the roots' functions say where each cyclic bit is in the least solution, whatever the cyclic bits are
pub record AreLeastRoots (arena : ArenaView) (a c : ℕ) (structural : Test) (consistent : Finding) (ids roots : List NodeId) : Type 0 where
  pub valid : IsArena arena
  pub variables : arena.variables ≡ a + c
  pub listing : IsListing arena.nodes ids
  pub under : (g : NodeId) → IsListed ids g → (f : NodeId) × (IsListed roots f × IsUnder arena.nodes f g)
  pub held : (f : NodeId) → IsListed roots f → (f.0 < 2) ⊎ IsListed ids f
  pub sized : length roots ≡ c
  pub apart : (f : NodeId) (p q : List Bool) → IsListed roots f → length p ≡ a + c → length q ≡ a + c → take a p ≡ take a q → function_of arena f.0 p ≡ function_of arena f.0 q
  pub are : (p : SignalSet) (j : ℕ) → length p ≡ a → j < c → has (map (λ f. function_of arena f (p ++ falses c)) (root_ids roots)) j ≡ in_least c structural consistent j p

-- so their nodes are what the solved system is made from
abbrev pub ArenasGiveDiagrams : Type 0
ArenasGiveDiagrams = (arena : ArenaView) (inputs c : ℕ) (widths : List ℕ) (structural : Test) (consistent : Finding) (ids roots : List NodeId) → AreLeastRoots arena (digits_in widths + inputs) c structural consistent ids roots
    → AreSolvedDiagrams inputs c widths structural consistent (branches_of arena.nodes ids) (root_ids roots)
