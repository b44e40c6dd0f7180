use Rattle.std.proofs.Common.{◌≡◌, ℕ, ◌+◌, ◌≤◌, length, drop, get_or}
use Rattle.eqn_completion.specs.Moving.{given_table}
use Rattle.eqn_sort.proofs.tables.number_given.Given as goal

abbrev pub invariant-loop-place : goal.invariant-loop-place
invariant-loop-place l = record {
  bound : l.place ≤ length l.given;
  sized : length l.table ≡ length l.initial.table;
  numbers : (k : ℕ) → get_or l.table k k ≡ given_table (drop l.place l.given) (l.first + l.place) k;
}

abbrev pub decreases-loop-place : goal.decreases-loop-place
decreases-loop-place l = l.place
