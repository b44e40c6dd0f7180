-- Signals that are marked in a round. Source: this project.
use Rattle.std.specs.Prelude.{ℕ, ◌≤◌, List, Bool, nat_eq, slice_index, All}

-- no mark is of a later round
abbrev pub StayWithin : ℕ → List ℕ → Type 0
StayWithin round rounds = All (λ r. r ≤ round) rounds

abbrev pub is_marked : ℕ → List ℕ → ℕ → Bool
is_marked round rounds k = nat_eq (slice_index rounds k) round
