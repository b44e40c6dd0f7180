-- How many nodes the diagrams of some functions have. Source: Bryant 1986; the count is this project's.
use Rattle.std.specs.Prelude.{◌≡◌, ℕ, List, [], ◌∷◌, Some, Bool, IsSome, slice_get}
use Rattle.dd_core.specs.declared.nodes.NodeId.{NodeId}
use Rattle.dd_core.specs.Diagrams.{node_at}
use Rattle.dd_core.specs.Functions.{Function, AreEqual, IsCofactor, constant}
use Rattle.dd_core.specs.Arenas.{ArenaView, IsArena, Holds, function_of}
use Rattle.dd_ops.specs.Listed.{IsUnder, IsListed, IsListing}

-- g has one value everywhere
abbrev pub IsConstant : ℕ → Function → Type 0
IsConstant v g = (b : Bool) × AreEqual v g (constant b)

-- some function of the list has the cofactor g
abbrev pub IsCofactorOfSome : ℕ → List Function → Function → Type 0
IsCofactorOfSome v fs g = (j : ℕ) × ((f : Function) × ((slice_get fs j ≡ Some f) × IsCofactor v f g))

-- these are the different cofactors, constants aside: as many as the reduced diagrams of the functions fs have nodes, constants aside
pub record AreNodesOf (v : ℕ) (fs gs : List Function) : Type 0 where
  pub each : (j : ℕ) (g : Function) → slice_get gs j ≡ Some g → IsCofactorOfSome v fs g × (¬ (IsConstant v g))
  pub different : (j k : ℕ) (g h : Function) → slice_get gs j ≡ Some g → slice_get gs k ≡ Some h → AreEqual v g h → j ≡ k
  pub all : (g : Function) → IsCofactorOfSome v fs g → ¬ (IsConstant v g) → (j : ℕ) × ((h : Function) × ((slice_get gs j ≡ Some h) × AreEqual v g h))

abbrev pub functions_of : ArenaView → List NodeId → List Function
functions_of arena [] = []
functions_of arena (f ∷ ids) = function_of arena f.0 ∷ functions_of arena ids

-- the nodes under the roots, each once, are as many
abbrev pub ListedAreNodes : Type 0
ListedAreNodes = (arena : ArenaView) (ids roots : List NodeId) → IsArena arena → IsListing arena.nodes ids → ((f : NodeId) → IsListed roots f → Holds arena f.0)
    → ((g : NodeId) → IsListed ids g → (f : NodeId) × (IsListed roots f × IsUnder arena.nodes f g))
    → ((f g : NodeId) → IsListed roots f → IsUnder arena.nodes f g → IsSome (node_at arena.nodes g.0) → IsListed ids g)
    → AreNodesOf arena.variables (functions_of arena roots) (functions_of arena ids)
