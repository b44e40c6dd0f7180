-- Variables quantified: true where some values of theirs make the function true.
use Rattle.std.specs.Prelude.{◌≡◌, ℕ, ◌+◌, ◌≤◌, ◌↔◌, List, Bool, true, false, length, slice_index_or, Contains, Result, Err, IfOk}
use Rattle.dd_core.specs.declared.nodes.NodeId.{NodeId}
use Rattle.dd_core.specs.declared.errors.DdError.{DdError}
use Rattle.dd_core.specs.declared.errors.DdError.TheVariants.{Budget}
use Rattle.dd_core.specs.Functions.{Function}
use Rattle.dd_core.specs.Diagrams.{node_count}
use Rattle.dd_core.specs.Arenas.{ArenaView, IsArena, Holds, function_of, Keeps, IsFull, LacksFunction}

-- some values that are x but at these variables make g true
pub record HoldsSomewhere (v : ℕ) (vars : List ℕ) (g : Function) (x : List Bool) : Type 0 where
  pub values : List Bool
  pub sized : length values ≡ v
  pub agree : (k : ℕ) → ¬ (Contains vars k) → slice_index_or values k false ≡ slice_index_or x k false
  pub holds : g values ≡ true

-- h is g with these variables quantified
abbrev pub IsExists : ℕ → List ℕ → Function → Function → Type 0
IsExists v vars g h = (x : List Bool) → length x ≡ v → (h x ≡ true) ↔ (HoldsSomewhere v vars g x)

-- f is the one node whose function is such
pub record IsNodeWith (arena : ArenaView) (Has : Function → Type 0) (f : ℕ) : Type 0 where
  pub held : Holds arena f
  pub has : Has (function_of arena f)
  pub only : (h : ℕ) → Holds arena h → Has (function_of arena h) → h ≡ f

-- A call makes the one node whose function is such, with at most so many new nodes. It answers Budget only where the arena is full and some function of its variables isn't held.
pub record MakesNodeWith (most : ℕ) (old new : ArenaView) (Has : Function → Type 0) (result : Result NodeId DdError) : Type 0 where
  pub was : IsArena old
  pub arena : IsArena new
  pub keeps : Keeps old new
  pub few : node_count new.nodes ≤ node_count old.nodes + most
  pub node : IfOk result (λ f. IsNodeWith new Has f.0)
  pub full : result ≡ Err Budget → IsFull new
  pub lacks : result ≡ Err Budget → LacksFunction new
