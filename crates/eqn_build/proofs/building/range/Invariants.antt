use Rattle.std.proofs.Common.{◌≡◌, ◌-◌, ◌++◌}
use Rattle.std.specs.List.{range_with_len}
use Rattle.eqn_build.proofs.building.range.Given as goal

-- with the numbers that are left come all
abbrev pub invariant-loop-number : goal.invariant-loop-number
invariant-loop-number l = l.numbers.items ++ range_with_len l.number (l.number-end - l.number) ≡ range_with_len l.first l.count
