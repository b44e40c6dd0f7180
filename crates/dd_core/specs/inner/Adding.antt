-- The arena as a plain list of nodes, and a node that is added to it.
use Rattle.std.specs.Prelude.{◌≡◌, ◌≢◌, ℕ, ◌+◌, ◌<◌, ◌≤◌, List, ◌∷◌, Some, None, map}
use Rattle.dd_core.specs.declared.nodes.Node.{Node}
use Rattle.dd_core.specs.Diagrams.{Nodes, node_at, level, node_count}
use Rattle.dd_core.specs.Arenas.{ArenaView, IsArena, TakesLeastIds}

-- nodes by id, where these have the ids from 2 on
abbrev pub by_id : List Node → Nodes
by_id nodes = None ∷ None ∷ map Some nodes

-- the arena whose nodes, from id 2 on, are these
abbrev pub in_turn : ℕ → ℕ → List Node → ArenaView
in_turn v most nodes = record { variables = v; budget = most; nodes = by_id nodes }

-- n may be added: its triple isn't held, its children differ and test later variables
pub record IsFresh (v : ℕ) (nodes : Nodes) (n : Node) : Type 0 where
  pub variable : n.variable < v
  pub different : n.low.0 ≢ n.high.0
  pub low_later : n.variable < level v nodes n.low.0
  pub high_later : n.variable < level v nodes n.high.0
  pub new : (f : ℕ) → node_at nodes f ≢ Some n

-- new has n at this place, which was free, and is old elsewhere
pub record HasMore (old new : Nodes) (place : ℕ) (n : Node) : Type 0 where
  pub past_constants : 2 ≤ place
  pub was_free : node_at old place ≡ None
  pub here : node_at new place ≡ Some n
  pub elsewhere : (f : ℕ) → f ≢ place → node_at new f ≡ node_at old f

-- new is old with the node n at the id f, which was free
pub record AddsNode (old new : ArenaView) (n : Node) (f : ℕ) : Type 0 where
  pub valid : IsArena new
  pub variables : new.variables ≡ old.variables
  pub budget : new.budget ≡ old.budget
  pub more : HasMore old.nodes new.nodes f n
  pub one_more : node_count new.nodes ≡ node_count old.nodes + 1
  pub in_order : TakesLeastIds old new
