-- What the two searches keep.
use Rattle.std.specs.Prelude.{◌≡◌, ◌⊎◌, ℕ, suc, ◌+◌, ◌-◌, ◌*◌, ◌≤◌, ◌<◌, List, [], ◌∷◌, Some, Bool, true, false, length, slice_get, slice_index_or}
use Rattle.argos_base.specs.SignalSets.{has}
use Rattle.eqn_order.specs.inner.Graphs.{row, Stands, IsEdge, Reach, IsFolded}

-- how many weren't seen
abbrev pub unseen : List Bool → ℕ
unseen [] = 0
unseen (true ∷ seen) = unseen seen
unseen (false ∷ seen) = suc (unseen seen)

-- how many edges weren't followed
abbrev pub unfollowed : List (List ℕ) → List ℕ → ℕ
unfollowed [] followed = 0
unfollowed (r ∷ R) [] = 0
unfollowed (r ∷ R) (c ∷ followed) = (length r - c) + unfollowed R followed

-- the steps that a depth-first search has still to take are at most these
abbrev pub work : List (List ℕ) → List ℕ → List ℕ → ℕ
work R followed path = 2 * unfollowed R followed + length path

-- a depth-first search: `path` leads down to the current line, and `done` was left
pub record Searches (R : List (List ℕ)) (seen : List Bool) (followed path done : List ℕ) : Type 0 where
  pub seen_sized : length seen ≡ length R
  pub followed_sized : length followed ≡ length R
  pub on_path : (x : ℕ) → Stands path x → has seen x ≡ true
  pub is_done : (x : ℕ) → Stands done x → has seen x ≡ true
  pub listed : (x : ℕ) → has seen x ≡ true → Stands path x ⊎ Stands done x
  pub counts : unseen seen + (length path + length done) ≡ length R
  -- each line of the path leads to those behind it
  pub leads : (i j x y : ℕ) → i ≤ j → slice_get path i ≡ Some x → slice_get path j ≡ Some y → Reach R x y
  pub seen_edges : (x c y : ℕ) → c < slice_index_or followed x 0 → slice_get (row R x) c ≡ Some y → has seen y ≡ true
  pub all_followed : (x : ℕ) → Stands done x → length (row R x) ≤ slice_index_or followed x 0
  pub folded : IsFolded R done
  -- what was left behind a line that leads to the path can be reached from there
  pub back : (i j x y z : ℕ) → i ≤ j → slice_get done i ≡ Some x → slice_get done j ≡ Some y → IsEdge R x z → Stands path z → Reach R z y

-- a walk along edges, of which Q has the reversed ones, from the line at place p of F to that at place k, by places up to k
pub data Walk (Q : List (List ℕ)) (F : List ℕ) (k : ℕ) : ℕ → Type 0 where
  ends : Walk Q F k k
  step : (p q x y : ℕ) → p ≤ k → q ≤ k → slice_get F p ≡ Some x → slice_get F q ≡ Some y → IsEdge Q y x → Walk Q F k q → Walk Q F k p

pub record WalksFrom (Q : List (List ℕ)) (F : List ℕ) (k x : ℕ) : Type 0 where
  pub place : ℕ
  pub is : slice_get F place ≡ Some x
  pub below : place ≤ k
  pub walk : Walk Q F k place

-- a search of the reversed graph: all at place `lo` of F or later was seen, and k is the place of the root
pub record Gathers (Q : List (List ℕ)) (F : List ℕ) (lo k : ℕ) (seen : List Bool) (roots waiting : List ℕ) : Type 0 where
  pub seen_sized : length seen ≡ length Q
  pub roots_sized : length roots ≡ length Q
  pub later : (m x : ℕ) → lo ≤ m → slice_get F m ≡ Some x → has seen x ≡ true
  pub walks : (x : ℕ) → has seen x ≡ true → WalksFrom Q F (slice_index_or roots x 0) x
  pub bounded : (x : ℕ) → has seen x ≡ true → k ≤ slice_index_or roots x 0
  pub waits : (x : ℕ) → Stands waiting x → (has seen x ≡ true) × (slice_index_or roots x 0 ≡ k)
  -- what leads to a line that was seen and doesn't wait was seen
  pub behind : (y : ℕ) → has seen y ≡ true → Stands waiting y ⊎ ((x : ℕ) → IsEdge Q y x → has seen x ≡ true)
  pub falls : (x y : ℕ) → IsEdge Q y x → has seen x ≡ true → has seen y ≡ true → slice_index_or roots y 0 ≤ slice_index_or roots x 0

-- the edges of the rows before i, and the first j of row i, are reversed
pub record IsReversedTo (R : List (List ℕ)) (i j : ℕ) (Q : List (List ℕ)) : Type 0 where
  pub sized : length Q ≡ length R
  pub only : (v w : ℕ) → IsEdge Q w v → IsEdge R v w
  pub rows : (v w : ℕ) → v < i → IsEdge R v w → IsEdge Q w v
  pub front : (c w : ℕ) → c < j → slice_get (row R i) c ≡ Some w → IsEdge Q w i
