use Rattle.std.proofs.Common.{◌≡◌, ℕ, [], length}
use Rattle.eqn_build.specs.inner.BuilderViews.{literals_at}
use Rattle.eqn_build.proofs.tables.empty_lists.Given as goal

-- so many lists, each empty
abbrev pub invariant-loop-number : goal.invariant-loop-number
invariant-loop-number l = record { len : length l.lists.items ≡ l.number; empty : (q : ℕ) → literals_at l.lists.items q ≡ [] }
