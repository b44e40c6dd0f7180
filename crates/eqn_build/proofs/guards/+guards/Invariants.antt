use Rattle.std.proofs.Common.{◌≡◌, ◌+◌, ◌++◌, map, drop}
use Rattle.argos_core.specs.Views.{guard_of, guards_of}
use Rattle.eqn_scheme.specs.Scheme.{operand_bits, operand_literals, operand_lines}
use Rattle.eqn_core.specs.Views.{literal_of, line_of}
use Rattle.eqn_build.proofs.guards.+guards.Given as goal

-- with those of the operands that are left come all
abbrev pub invariant-put_operands-loop-guard : goal.invariant-put_operands-loop-guard
invariant-put_operands-loop-guard l = record {
  bits : l.builder.bits + operand_bits (guards_of (map guard_of (drop l.guard-index l.guards))) ≡ l.initial.builder.bits + operand_bits (guards_of (map guard_of l.guards));
  one : l.builder.one ≡ l.initial.builder.one;
  literals : map literal_of l.literals.items ++ operand_literals l.builder.one l.builder.bits (guards_of (map guard_of (drop l.guard-index l.guards))) ≡ operand_literals l.initial.builder.one l.initial.builder.bits (guards_of (map guard_of l.guards));
  lines : map line_of l.builder.lines.items ++ operand_lines l.builder.one l.builder.bits (guards_of (map guard_of (drop l.guard-index l.guards))) ≡ map line_of l.initial.builder.lines.items ++ operand_lines l.initial.builder.one l.initial.builder.bits (guards_of (map guard_of l.guards));
}
