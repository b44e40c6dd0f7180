use Rattle.std.proofs.Common.{◌≡◌, ◌+◌, ◌-◌, length}
use Rattle.argos_base.specs.Names.{Spelled}
use Rattle.eqn_file.specs.EquationFile.{FileLine}
use Rattle.eqn_file.specs.inner.WordReading.{one_name}
use Rattle.eqn_file.specs.inner.Sections.{GoesOn, stood_before}
use Rattle.eqn_file.proofs.parts.names.Given as goal

abbrev pub invariant-loop : goal.invariant-loop
invariant-loop l = record {
  goes : (say : Spelled → FileLine) → GoesOn say one_name (stood_before l.before) l.initial.reader l.count l.reader (l.count - l.counter) l.names;
  count : length l.names ≡ l.counter;
  number : l.reader.number ≡ l.initial.reader.number + l.counter;
}
