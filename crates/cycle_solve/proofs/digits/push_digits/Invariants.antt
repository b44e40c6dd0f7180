use Rattle.std.proofs.Common.{◌≡◌, ◌++◌, map, drop}
use Rattle.eqn_core.specs.Views.{line_of}
use Rattle.eqn_verdict.specs.Branches.{digit_lines}
use Rattle.instant_verdict.specs.inner.Decoded.{register_widths}
use Rattle.cycle_solve.proofs.digits.push_digits.Given as goal

abbrev pub invariant-loop-register : goal.invariant-loop-register
invariant-loop-register l =
    map line_of l.lines.items ++ digit_lines l.register (register_widths (drop l.register l.registers))
    ≡ map line_of l.initial.lines.items ++ digit_lines 0 (register_widths l.registers)
