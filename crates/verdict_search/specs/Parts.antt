-- Parts of the cyclic bits that don't depend on each other. Source: this project.
use Rattle.std.specs.Prelude.{◌≡◌, ℕ, ◌+◌, ◌<◌, List, [], ◌∷◌, ◌++◌, Bool, true, ◌&&◌, nat_eq, length, slice_index_or, All}
use Rattle.argos_base.specs.SignalSets.{SignalSet, has}
use Rattle.dd_core.specs.declared.nodes.NodeId.{NodeId}
use Rattle.dd_core.specs.Functions.{Function}
use Rattle.dd_core.specs.Arenas.{ArenaView, Holds, function_of}
use Rattle.verdict_search.specs.declared.parting.Parts.{Parts}

-- the function that is true where those of all nodes are
abbrev pub meet : ArenaView → List NodeId → Function
meet arena [] x = true
meet arena (f ∷ fs) x = function_of arena f.0 x && meet arena fs x

-- the part of a cyclic bit
abbrev pub part_of : List ℕ → ℕ → ℕ
part_of labels j = slice_index_or labels j 0

-- whether a cyclic bit is in this part
abbrev pub is_in : List ℕ → ℕ → ℕ → Bool
is_in labels p j = nat_eq (part_of labels j) p

-- the function of a points and c cyclic bits depends on no other cyclic bits than these
abbrev pub ReadsOnly : ℕ → ℕ → (ℕ → Bool) → Function → Type 0
ReadsOnly a c M g = (y x z : SignalSet) → length y ≡ a → length x ≡ c → length z ≡ c → ((j : ℕ) → M j ≡ true → has x j ≡ has z j) → g (y ++ x) ≡ g (y ++ z)

-- The variables are a points and cyclic bits, of which each has its part. For each part there is a node, which depends on the cyclic bits of the part alone.
pub record AreParts (arena : ArenaView) (a : ℕ) (parts : Parts) : Type 0 where
  pub variables : a + length parts.labels.items ≡ arena.variables
  pub sized : length parts.consistent.items ≡ length parts.labels.items
  pub labelled : All (λ p. p < length parts.consistent.items) parts.labels.items
  pub held : All (λ f. Holds arena f.0) parts.consistent.items
  pub apart : (p : ℕ) → p < length parts.consistent.items → ReadsOnly a (length parts.labels.items) (is_in parts.labels.items p) (function_of arena (slice_index_or parts.consistent.items p (record { 0 = 0 })).0)
