use Rattle.std.proofs.Common.{◌≡◌, ◌+◌, ◌-◌, ◌≤◌, map}
use Rattle.eqn_core.specs.Equations.{bit_lines, word_lines}
use Rattle.eqn_core.specs.Views.{line_of}
use Rattle.eqn_file.specs.EquationFile.{a_line}
use Rattle.eqn_file.specs.inner.WordReading.{read_line}
use Rattle.eqn_file.specs.inner.Sections.{GoesOn, reads_ahead}
use Rattle.eqn_file.proofs.parts.lines.Given as goal

abbrev pub invariant-loop : goal.invariant-loop
invariant-loop l = record {
  goes : GoesOn a_line read_line (reads_ahead l.fn.before.bits l.fn.before.words) l.initial.reader l.count l.reader (l.count - l.counter) (map line_of l.lines.items);
  bits : l.bounds.bits ≡ l.fn.before.bits + bit_lines (map line_of l.lines.items);
  words : l.bounds.words ≡ l.fn.before.words + word_lines (map line_of l.lines.items);
  few_bits : l.bounds.bits ≤ l.fn.before.bits + l.counter;
  few_words : l.bounds.words ≤ l.fn.before.words + l.counter;
  number : l.reader.number ≡ l.initial.reader.number + l.counter;
}
