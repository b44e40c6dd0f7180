-- Graphs of lines: for each line the list of those that it leads to.
use Rattle.std.specs.Prelude.{◌≡◌, ℕ, ◌≤◌, ◌<◌, ◌↔◌, List, [], Some, Vec, length, map, slice_get, slice_index_or}
use Rattle.std.specs.declared.alloc.Global.{Global}

abbrev pub rows_of : List (Vec ℕ Global) → List (List ℕ)
rows_of = map (λ r. r.items)

abbrev pub row : List (List ℕ) → ℕ → List ℕ
row R v = slice_index_or R v []

-- the list has the number at some place
pub record Stands (xs : List ℕ) (k : ℕ) : Type 0 where
  pub place : ℕ
  pub is : slice_get xs place ≡ Some k

-- the line v leads to w
abbrev pub IsEdge : List (List ℕ) → ℕ → ℕ → Type 0
IsEdge R v w = Stands (row R v) w

-- no or more edges lead from v to w
pub data Reach (R : List (List ℕ)) : ℕ → ℕ → Type 0 where
  here : (v : ℕ) → Reach R v v
  along : (v w x : ℕ) → IsEdge R v w → Reach R w x → Reach R v x

-- edges lead to lines of the graph
abbrev pub AreRows : List (List ℕ) → Type 0
AreRows R = (v w : ℕ) → IsEdge R v w → w < length R

pub record AreReversed (R Q : List (List ℕ)) : Type 0 where
  pub sized : length Q ≡ length R
  pub back : (v w : ℕ) → IsEdge R v w → IsEdge Q w v
  pub only : (v w : ℕ) → IsEdge Q w v → IsEdge R v w

-- where x, y, z stand in this order, and x leads to z, then y can be reached from z
abbrev pub IsFolded : List (List ℕ) → List ℕ → Type 0
IsFolded R F = (i j k x y z : ℕ) → i ≤ j → j ≤ k → slice_get F i ≡ Some x → slice_get F j ≡ Some y → slice_get F k ≡ Some z → IsEdge R x z → Reach R z y

-- each line once, in an order in which a depth-first search can leave them
pub record IsFinishingOrder (R : List (List ℕ)) (F : List ℕ) : Type 0 where
  pub sized : length F ≡ length R
  pub each : (v : ℕ) → v < length R → Stands F v
  pub inside : (v : ℕ) → Stands F v → v < length R
  pub folded : IsFolded R F

-- a line and one that it leads to have one number exactly where an edge or more lead back
abbrev pub AreComponents : List (List ℕ) → List ℕ → Type 0
AreComponents R roots = (v w : ℕ) → IsEdge R v w → (slice_index_or roots w 0 ≡ slice_index_or roots v 0) ↔ Reach R w v
