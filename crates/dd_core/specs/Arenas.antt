-- What an arena holds, and what a call on it leaves.
use Rattle.std.specs.Prelude.{◌≡◌, ℕ, ◌+◌, ◌*◌, ◌^◌, ◌<◌, ◌≤◌, Some, None, true, Result, Err, IfOk}
use Rattle.dd_core.specs.declared.nodes.Node.{Node}
use Rattle.dd_core.specs.declared.nodes.NodeId.{NodeId}
use Rattle.dd_core.specs.declared.errors.DdError.{DdError}
use Rattle.dd_core.specs.declared.errors.DdError.TheVariants.{Budget}
use Rattle.dd_core.specs.Diagrams.{Nodes, node_at, level, denotes, is_held, node_count, IsReduced}
use Rattle.dd_core.specs.Functions.{Function, AreEqual, IsCofactor}

-- What contracts see of an arena: how many variables its functions have, how many nodes it may hold, constants included, and the nodes that it holds.
pub record ArenaView : Type 0 where
  pub variables : ℕ
  pub budget : ℕ
  pub nodes : Nodes

-- f is a node of the arena
abbrev pub Holds : ArenaView → ℕ → Type 0
Holds arena f = is_held arena.nodes f ≡ true

-- the variable that f tests, the number of variables for a constant
abbrev pub level_of : ArenaView → ℕ → ℕ
level_of arena f = level arena.variables arena.nodes f

-- what f denotes
abbrev pub function_of : ArenaView → ℕ → Function
function_of arena f = denotes arena.nodes f

-- what holds of every arena
pub record IsArena (arena : ArenaView) : Type 0 where
  pub reduced : IsReduced arena.variables arena.nodes
  pub few_variables : arena.variables ≤ 1024
  pub least_budget : 2 ≤ arena.budget
  pub greatest_budget : arena.budget ≤ 16777216
  pub within : node_count arena.nodes ≤ arena.budget

-- each id that is held in new and wasn't in old has every smaller id held
abbrev pub TakesLeastIds : ArenaView → ArenaView → Type 0
TakesLeastIds old new = (f g : ℕ) → Holds new f → ¬ (Holds old f) → g < f → Holds new g

-- no node is held but the constants
pub record IsEmpty (v most : ℕ) (arena : ArenaView) : Type 0 where
  pub valid : IsArena arena
  pub variables : arena.variables ≡ v
  pub budget : arena.budget ≡ most
  pub none : (f : ℕ) → node_at arena.nodes f ≡ None
  pub used : node_count arena.nodes ≡ 2

-- Variables and budget stay. Each node held before is held with its triple, and denotes what it denoted. New nodes take the least ids.
pub record Keeps (old new : ArenaView) : Type 0 where
  pub variables : new.variables ≡ old.variables
  pub budget : new.budget ≡ old.budget
  pub held : (f : ℕ) → Holds old f → Holds new f
  pub nodes : (f : ℕ) (n : Node) → node_at old.nodes f ≡ Some n → node_at new.nodes f ≡ Some n
  pub denotes : (f : ℕ) → Holds old f → AreEqual old.variables (function_of new f) (function_of old f)
  pub in_order : TakesLeastIds old new

-- each node added denotes a cofactor of g
abbrev pub AddsCofactors : ArenaView → ArenaView → Function → Type 0
AddsCofactors old new g = (f : ℕ) → Holds new f → ¬ (Holds old f) → IsCofactor old.variables g (function_of new f)

-- f is the one node that denotes g
pub record IsNodeOf (arena : ArenaView) (g : Function) (f : ℕ) : Type 0 where
  pub held : Holds arena f
  pub denotes : AreEqual arena.variables (function_of arena f) g
  pub only : (h : ℕ) → Holds arena h → AreEqual arena.variables (function_of arena h) g → h ≡ f

-- some node held denotes g
pub record IsDenoted (arena : ArenaView) (g : Function) : Type 0 where
  pub node : ℕ
  pub held : Holds arena node
  pub equal : AreEqual arena.variables (function_of arena node) g

-- some cofactor of g is denoted by no node held
pub record LacksCofactor (arena : ArenaView) (g : Function) : Type 0 where
  pub cofactor : Function
  pub is : IsCofactor arena.variables g cofactor
  pub lacks : ¬ (IsDenoted arena cofactor)

-- some function of the arena's variables is denoted by no node held
pub record LacksFunction (arena : ArenaView) : Type 0 where
  pub function : Function
  pub lacks : ¬ (IsDenoted arena function)

-- the arena holds as many nodes as it may
abbrev pub IsFull : ArenaView → Type 0
IsFull arena = node_count arena.nodes ≡ arena.budget

-- A call makes the node of g, with at most so many new nodes, each of a cofactor of g. It answers Budget only where the arena is full and some cofactor of g isn't held, and whatever it answers, the old nodes stay.
pub record Makes (most : ℕ) (old new : ArenaView) (g : Function) (result : Result NodeId DdError) : Type 0 where
  pub was : IsArena old
  pub arena : IsArena new
  pub keeps : Keeps old new
  pub added : AddsCofactors old new g
  pub few : node_count new.nodes ≤ node_count old.nodes + most
  pub node : IfOk result (λ f. IsNodeOf new g f.0)
  pub full : result ≡ Err Budget → IsFull new
  pub lacks : result ≡ Err Budget → LacksCofactor new g

-- What a call leaves, whatever it answers: the nodes from before are held and denote what they denoted, and it
-- adds no more nodes than so many operations may, of which each adds at most 2 ^ (v + 1).
pub record AddsAtMost (operations : ℕ) (old new : ArenaView) : Type 0 where
  pub was : IsArena old
  pub arena : IsArena new
  pub keeps : Keeps old new
  pub few : node_count new.nodes ≤ node_count old.nodes + operations * 2 ^ (old.variables + 1)

-- the arena holds as many nodes as it may, and some function of its variables has no node
pub record HasNoRoom (arena : ArenaView) : Type 0 where
  pub full : IsFull arena
  pub lacks : LacksFunction arena
