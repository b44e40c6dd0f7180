use Rattle.std.proofs.Common.{◌≡◌, ◌+◌, ◌<◌, ◌^◌, ◌++◌, map, drop}
use Rattle.eqn_core.specs.Equations.{bit_lines, word_lines}
use Rattle.eqn_core.specs.Views.{line_of}
use Rattle.c_emit.specs.COf.{line_statements}
use Rattle.c_step.specs.Views.{statement_of}
use Rattle.c_emit.proofs.statements.push_lines.Given as goal

abbrev pub invariant-loop-line : goal.invariant-loop-line
invariant-loop-line l = record {
  bits : l.bit + bit_lines (map line_of (drop l.line-index l.lines)) < 2 ^ 32;
  words : l.word + word_lines (map line_of (drop l.line-index l.lines)) < 2 ^ 32;
  done : map statement_of l.statements.items ++ line_statements l.bit l.word (map line_of (drop l.line-index l.lines)) ≡ map statement_of l.initial.statements.items ++ line_statements l.initial.bit l.initial.word (map line_of l.lines);
}
