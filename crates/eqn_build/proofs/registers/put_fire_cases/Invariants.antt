use Rattle.std.proofs.Common.{◌≡◌, ◌++◌, map, drop}
use Rattle.std.specs.Prelude.{slice_index_or}
use Rattle.eqn_core.specs.Views.{case_of}
use Rattle.eqn_scheme.specs.Scheme.{fire_cases}
use Rattle.eqn_build.specs.inner.BuilderViews.{fire_bit_of}
use Rattle.eqn_build.proofs.registers.put_fire_cases.Given as goal

-- with those of the fires that are left come all cases
abbrev pub invariant-loop-fire : goal.invariant-loop-fire
invariant-loop-fire l =
    map case_of l.cases.items ++ fire_cases (λ q. slice_index_or l.firsts q 0) (map fire_bit_of (drop l.fire-index l.fires)) ≡ map case_of l.initial.cases.items ++ fire_cases (λ q. slice_index_or l.firsts q 0) (map fire_bit_of l.fires)
