-- Steps of the operations on words.
use Rattle.std.specs.Prelude.{ℕ, Bool, true, not, if◌then◌else◌, nat_lt}
use Rattle.dd_core.specs.Functions.{Function}

-- `below` where the code is below the bound, `above` where it is above it, and true where it is the bound
abbrev pub compared : Bool → Bool → ℕ → ℕ → Bool
compared below above bound code = if nat_lt code bound then below else (if nat_lt bound code then above else true)

-- exactly one of the two is true
abbrev pub differ : Function → Function → Function
differ f g x = if g x then not (f x) else f x
