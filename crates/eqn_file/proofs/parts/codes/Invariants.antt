use Rattle.std.proofs.Common.{◌≡◌, ◌+◌, ◌-◌, length}
use Rattle.eqn_file.specs.EquationFile.{a_code}
use Rattle.eqn_file.specs.inner.WordReading.{one_number}
use Rattle.eqn_file.specs.inner.Sections.{GoesOn, too_large}
use Rattle.eqn_file.proofs.parts.codes.Given as goal

abbrev pub invariant-loop : goal.invariant-loop
invariant-loop l = record {
  goes : GoesOn a_code one_number (λ _. too_large) l.initial.reader l.count l.reader (l.count - l.counter) l.codes.items;
  count : length l.codes.items ≡ l.counter;
  number : l.reader.number ≡ l.initial.reader.number + l.counter;
}
