use Rattle.std.proofs.Common.{◌≡◌, ◌+◌, ◌-◌, ◌^◌, ◌<◌, min, map, drop}
use Rattle.eqn_core.specs.Equations.{lines_weight}
use Rattle.eqn_core.specs.Views.{line_of}
use Rattle.eqn_core.proofs.weights.weight.Given as goal

abbrev pub invariant-loop-line : goal.invariant-loop-line
invariant-loop-line l =
    (min (l.sum + lines_weight (map line_of (drop l.line-index l.system.lines.items))) (2 ^ 64 - 1) ≡ min (lines_weight (map line_of l.system.lines.items)) (2 ^ 64 - 1)) × (l.sum < 2 ^ 64)
