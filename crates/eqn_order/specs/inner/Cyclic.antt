-- Which bits are on a cycle, by the numbers of components.
use Rattle.std.specs.Prelude.{ℕ, List, Option, Some, None, Bool, false, nat_eq, slice_index_or}
use Rattle.std.specs.List.{list_any}
use Rattle.eqn_order.specs.inner.Graphs.{row}

-- some line of the row has the number of this line
abbrev pub leads_back : List ℕ → List ℕ → ℕ → Bool
leads_back targets roots v = list_any (λ w. nat_eq (slice_index_or roots w 0) (slice_index_or roots v 0)) targets

abbrev pub is_on_cycle : List (List ℕ) → List ℕ → Option ℕ → Bool
is_on_cycle R roots None = false
is_on_cycle R roots (Some v) = leads_back (row R v) roots v
