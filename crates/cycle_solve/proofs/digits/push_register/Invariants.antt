use Rattle.std.proofs.Common.{◌≡◌, ◌++◌, map}
use Rattle.eqn_core.specs.Views.{line_of}
use Rattle.eqn_verdict.specs.Branches.{digits_of}
use Rattle.cycle_solve.proofs.digits.push_register.Given as goal

abbrev pub invariant-loop-place : goal.invariant-loop-place
invariant-loop-place l = map line_of l.lines.items
    ++ digits_of l.register l.place ≡ map line_of l.initial.lines.items ++ digits_of l.register l.digits

abbrev pub decreases-loop-place : goal.decreases-loop-place
decreases-loop-place l = l.place
