use Rattle.std.proofs.Common.{◌≡◌, ℕ, ◌+◌, ◌-◌, length}
use Rattle.eqn_file.specs.EquationFile.{FileLine}
use Rattle.eqn_file.specs.inner.WordReading.{keyed}
use Rattle.eqn_file.specs.inner.Sections.{GoesOn, outside}
use Rattle.eqn_file.proofs.parts.places.Given as goal

abbrev pub invariant-loop : goal.invariant-loop
invariant-loop l = record {
  goes : (say : ℕ → FileLine) → GoesOn say (keyed l.word) (λ _. outside l.start l.end) l.initial.reader l.count l.reader (l.count - l.counter) l.places.items;
  count : length l.places.items ≡ l.counter;
  number : l.reader.number ≡ l.initial.reader.number + l.counter;
}
