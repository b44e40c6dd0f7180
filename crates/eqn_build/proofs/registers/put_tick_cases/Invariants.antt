use Rattle.std.proofs.Common.{◌≡◌, ◌++◌, map, drop}
use Rattle.eqn_core.specs.Views.{case_of}
use Rattle.eqn_scheme.specs.Scheme.{tick_cases}
use Rattle.eqn_build.proofs.registers.put_tick_cases.Given as goal

-- with those of the ticks that are left come all cases
abbrev pub invariant-loop-tick : goal.invariant-loop-tick
invariant-loop-tick l = map case_of l.cases.items ++ tick_cases l.register (drop l.tick-index l.ticks) ≡ map case_of l.initial.cases.items ++ tick_cases l.register l.ticks
