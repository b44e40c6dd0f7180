-- Functions of truth values, and their cofactors. Source: Bryant 1986; `need` is this project's.
use Rattle.std.specs.Prelude.{◌≡◌, ℕ, ◌+◌, ◌*◌, ◌^◌, ◌≤◌, List, ◌++◌, Bool, false, ◌&&◌, ◌||◌, not, if◌then◌else◌, length, drop, min, slice_index_or, slice_set}

-- a function of the values of the variables, by number
abbrev pub Function : Type 0
Function = List Bool → Bool

-- the two agree on all values of v variables
abbrev pub AreEqual : ℕ → Function → Function → Type 0
AreEqual v g h = (x : List Bool) → length x ≡ v → g x ≡ h x

-- h is g with the first variables set to fixed values
pub record IsCofactor (v : ℕ) (g h : Function) : Type 0 where
  pub fixed : List Bool
  pub bound : length fixed ≤ v
  pub equal : AreEqual v h (λ x. g (fixed ++ drop (length fixed) x))

-- the value of variable k
abbrev pub variable_value : ℕ → Function
variable_value k x = slice_index_or x k false

-- the same value everywhere
abbrev pub constant : Bool → Function
constant b x = b

-- g where f is true, and h elsewhere
abbrev pub if_else : Function → Function → Function → Function
if_else f g h x = if f x then g x else h x

abbrev pub both : Function → Function → Function
both f g x = f x && g x

abbrev pub either : Function → Function → Function
either f g x = f x || g x

abbrev pub opposite : Function → Function
opposite f x = not (f x)

-- g with variable k set to b
abbrev pub restriction : ℕ → Bool → Function → Function
restriction k b g x = g (slice_set x k b)

-- With a budget of so many nodes, fewer than n operations on functions of v variables never answer Budget: each node is another function,
-- and each operation adds at most 2 ^ (v + 1) nodes to the two constants.
abbrev pub need : ℕ → ℕ → ℕ
need n v = min (2 ^ 2 ^ v) (n * 2 ^ (v + 1))
