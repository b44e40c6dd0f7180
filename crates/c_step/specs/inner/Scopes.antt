-- What the scope of a statement stands for.
use Rattle.std.specs.Prelude.{◌||◌, nat_eq, nat_lt}
use Rattle.std.specs.HashSet.{contains}
use Rattle.c_step.specs.inner.LineReading as plain
use Rattle.c_step.specs.declared.scope.Scope.{Scope}

abbrev pub scope_of : Scope → plain.Scope
scope_of s = record {
  inputs = s.inputs;
  outputs = s.outputs;
  words = s.words;
  bits = s.bits;
  has_bit = contains nat_eq s.marks.now.bits;
  has_word = λ k. nat_lt k s.registers || contains nat_eq s.marks.now.words k;
}
