use Rattle.std.proofs.Common.{◌≡◌, ◌++◌, map, drop}
use Rattle.eqn_scheme.specs.Scheme.{fire_literals}
use Rattle.eqn_build.specs.inner.BuilderViews.{fire_bit_of, literals}
use Rattle.eqn_build.proofs.tables.fire_literals.Given as goal

-- with those of the fires that are left come all
abbrev pub invariant-loop-fire : goal.invariant-loop-fire
invariant-loop-fire l = literals l.literals ++ fire_literals (map fire_bit_of (drop l.fire-index l.fires)) ≡ fire_literals (map fire_bit_of l.fires)
