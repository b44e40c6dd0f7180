use Rattle.std.proofs.Common.{◌≡◌, ◌++◌, drop}
use Rattle.instant_verdict.specs.inner.Decoded.{register_widths}
use Rattle.instant_verdict.proofs.decoding.widths_of.Given as goal

abbrev pub invariant-loop-digits : goal.invariant-loop-digits
invariant-loop-digits l = l.widths.items ++ register_widths (drop l.digits-index l.registers) ≡ register_widths l.registers
