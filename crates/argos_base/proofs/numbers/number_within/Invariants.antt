use Rattle.std.proofs.Common.{◌≡◌, ◌≤◌, drop}
use Rattle.argos_base.specs.Spelling.{number_of, value_from}
use Rattle.argos_base.proofs.numbers.number_within.Given as goal

abbrev pub invariant-loop-digit : goal.invariant-loop-digit
invariant-loop-digit l = (l.value ≤ l.most) × (number_of l.digits ≡ value_from l.value (drop l.digit-index l.digits))
