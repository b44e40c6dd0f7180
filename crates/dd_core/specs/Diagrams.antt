-- Nodes of diagrams and what they denote. Source: Bryant 1986.
use Rattle.std.specs.Prelude.{◌≡◌, ◌≢◌, ℕ, ◌+◌, ◌<◌, List, [], ◌∷◌, Option, Some, None, Bool, ◌||◌, if◌then◌else◌, nat_eq, nat_lt, is_some, slice_index_or}
use Rattle.dd_core.specs.declared.nodes.Node.{Node}
use Rattle.dd_core.specs.Functions.{Function}

-- The nodes that are held, by id. The constants 0 and 1, false and true, have none, and neither do free places.
abbrev pub Nodes : Type 0
Nodes = List (Option Node)

abbrev pub node_at : Nodes → ℕ → Option Node
node_at nodes f = slice_index_or nodes f None

-- where the walk stands after variable k, whose value is b
abbrev pub after : ℕ → Bool → ℕ → Option Node → ℕ
after k b f None = f
after k b f (Some n) = if nat_eq n.variable k then (if b then n.high.0 else n.low.0) else f

-- the value at the end of the walk from f, where these are the values of variable k and of those after it
abbrev pub walk : Nodes → ℕ → ℕ → List Bool → Bool
walk nodes k f [] = nat_eq f 1
walk nodes k f (b ∷ values) = walk nodes (k + 1) (after k b f (node_at nodes f)) values

-- the function of f: its value where these are the values of all variables
abbrev pub denotes : Nodes → ℕ → Function
denotes nodes f values = walk nodes 0 f values

-- The variable that f tests, the number of variables v for a constant, and 0 for a free place.
abbrev pub level_as : ℕ → ℕ → Option Node → ℕ
level_as v f (Some n) = n.variable
level_as v f None = if nat_lt f 2 then v else 0

abbrev pub level : ℕ → Nodes → ℕ → ℕ
level v nodes f = level_as v f (node_at nodes f)

-- The nodes over v variables are reduced: no triple stands twice, no node has equal children, and children test later variables or are constants.
pub record IsReduced (v : ℕ) (nodes : Nodes) : Type 0 where
  pub no_false : node_at nodes 0 ≡ None
  pub no_true : node_at nodes 1 ≡ None
  pub once : (f g : ℕ) (n : Node) → node_at nodes f ≡ Some n → node_at nodes g ≡ Some n → f ≡ g
  pub different : (f : ℕ) (n : Node) → node_at nodes f ≡ Some n → n.low.0 ≢ n.high.0
  pub variable : (f : ℕ) (n : Node) → node_at nodes f ≡ Some n → n.variable < v
  pub low_later : (f : ℕ) (n : Node) → node_at nodes f ≡ Some n → n.variable < level v nodes n.low.0
  pub high_later : (f : ℕ) (n : Node) → node_at nodes f ≡ Some n → n.variable < level v nodes n.high.0

-- how many nodes are held, without the constants
abbrev pub triple_count : Nodes → ℕ
triple_count [] = 0
triple_count (None ∷ nodes) = triple_count nodes
triple_count (Some n ∷ nodes) = triple_count nodes + 1

-- how many nodes are held, with the constants
abbrev pub node_count : Nodes → ℕ
node_count nodes = triple_count nodes + 2

-- a constant, or a node that is held
abbrev pub is_held : Nodes → ℕ → Bool
is_held nodes f = nat_lt f 2 || is_some (node_at nodes f)
