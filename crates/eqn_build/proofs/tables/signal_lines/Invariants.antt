use Rattle.std.proofs.Common.{◌≡◌, ℕ, ◌+◌, ◌++◌, map, drop, length}
use Rattle.eqn_scheme.specs.Scheme.{emitting}
use Rattle.eqn_build.specs.inner.BuilderViews.{fire_bit_of, literals_at}
use Rattle.eqn_build.proofs.tables.signal_lines.Given as goal

-- with the fires that are left come all
abbrev pub invariant-loop-fire : goal.invariant-loop-fire
invariant-loop-fire l = record {
  len : length l.lists.items ≡ l.count;
  each : (k : ℕ) → literals_at l.lists.items k ++ emitting (map fire_bit_of (drop l.fire-index l.fires)) (l.first + k) ≡ emitting (map fire_bit_of l.fires) (l.first + k);
}
